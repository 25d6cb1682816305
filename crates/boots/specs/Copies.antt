-- A request with other lists.
use Rattle.std.specs.Prelude.{ℕ, List}
use Rattle.rio_requests.specs.declared.request.Request.{Request}
use Rattle.rio_requests.specs.declared.request.Request.TheVariants.{Mkdir, Create, Region, Write, Read, Truncate, Unlink, Rmdir, Rename, Stat, List as ListOf, Sync, Begin, Range, Put, Get, Alloc, Free, Commit, Abort, Txns, Flush, Wild, Arm}

-- the request with this path, and with this list in place of its other path or its bytes, where it has such
abbrev pub with_lists : List ℕ → List ℕ → Request → Request
with_lists path other (Mkdir p) = Mkdir path
with_lists path other (Create p) = Create path
with_lists path other (Region p pages undo) = Region path pages undo
with_lists path other (Write p off bytes) = Write path off other
with_lists path other (Read p off len) = Read path off len
with_lists path other (Truncate p len) = Truncate path len
with_lists path other (Unlink p) = Unlink path
with_lists path other (Rmdir p) = Rmdir path
with_lists path other (Rename p to) = Rename path other
with_lists path other (Stat p) = Stat path
with_lists path other (ListOf p) = ListOf path
with_lists path other Sync = Sync
with_lists path other (Begin p) = Begin path
with_lists path other (Range p off len) = Range path off len
with_lists path other (Put p off bytes) = Put path off other
with_lists path other (Get p off len) = Get path off len
with_lists path other (Alloc p units) = Alloc path units
with_lists path other (Free p at) = Free path at
with_lists path other (Commit p) = Commit path
with_lists path other (Abort p) = Abort path
with_lists path other Txns = Txns
with_lists path other (Flush count) = Flush count
with_lists path other (Wild at value) = Wild at value
with_lists path other (Arm step at value) = Arm step at value
