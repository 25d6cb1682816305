-- Requests that a line can be, and those on files, which ask for no words of a region.
use Rattle.std.specs.Prelude.{◌≤◌, ℕ, length}
use Rattle.rio_model.specs.Paths.{IsPath}
use Rattle.rio_requests.specs.declared.request.Request.{Request}
use Rattle.rio_requests.specs.declared.request.Request.TheVariants.{Mkdir, Create, Region, Write, Read, Truncate, Unlink, Rmdir, Rename, Stat, List as ListOf, Sync, Begin, Range, Put, Get, Alloc, Free, Commit, Abort, Txns, Flush, Wild, Arm}

-- the most bytes that one request carries or asks for
abbrev pub most_data : ℕ
most_data = 1048576

-- its paths are paths, it has no more data than a request may carry, and its counts are not 0
abbrev pub IsRequest : Request → Type 0
IsRequest (Mkdir path) = IsPath path
IsRequest (Create path) = IsPath path
IsRequest (Region path pages undo) = IsPath path × (1 ≤ pages) × (1 ≤ undo)
IsRequest (Write path off bytes) = IsPath path × (length bytes ≤ most_data)
IsRequest (Read path off len) = IsPath path × (len ≤ most_data)
IsRequest (Truncate path len) = IsPath path
IsRequest (Unlink path) = IsPath path
IsRequest (Rmdir path) = IsPath path
IsRequest (Rename path to) = IsPath path × IsPath to
IsRequest (Stat path) = IsPath path
IsRequest (ListOf path) = IsPath path
IsRequest Sync = Unit {0}
IsRequest (Begin path) = IsPath path
IsRequest (Range path off len) = IsPath path
IsRequest (Put path off bytes) = IsPath path × (length bytes ≤ most_data)
IsRequest (Get path off len) = IsPath path × (len ≤ most_data)
IsRequest (Alloc path units) = IsPath path × (1 ≤ units)
IsRequest (Free path at) = IsPath path
IsRequest (Commit path) = IsPath path
IsRequest (Abort path) = IsPath path
IsRequest Txns = Unit {0}
IsRequest (Flush count) = Unit {0}
IsRequest (Wild at value) = Unit {0}
IsRequest (Arm step at value) = Unit {0}

-- ---- all requests on files

-- it asks for files, directories and names, and for no words of a region
abbrev pub OnFiles : Request → Type 0
OnFiles (Mkdir path) = Unit {0}
OnFiles (Create path) = Unit {0}
OnFiles (Region path pages undo) = Unit {0}
OnFiles (Write path off bytes) = Unit {0}
OnFiles (Read path off len) = Unit {0}
OnFiles (Truncate path len) = Unit {0}
OnFiles (Unlink path) = Unit {0}
OnFiles (Rmdir path) = Unit {0}
OnFiles (Rename path to) = Unit {0}
OnFiles (Stat path) = Unit {0}
OnFiles (ListOf path) = Unit {0}
OnFiles _ = ⊥
