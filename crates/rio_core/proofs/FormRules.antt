-- The requests of lines.
use Rattle.std.proofs.Common.{ℕ, List}
use Rattle.std.specs.Prelude.{Some}
use Rattle.rio_requests.specs.declared.request.Request.{Request}
use Rattle.rio_requests.specs.declared.request.Request.TheVariants.{Mkdir, Create, Region, Write, Read, Truncate, Unlink, Rmdir, Rename, Stat, List as ListOf, Sync, Begin, Range, Put, Get, Alloc, Free, Commit, Abort, Txns, Flush, Wild, Arm}
use Rattle.rio_requests.specs.Requests.{IsRequest}
use Rattle.request_codec.specs.Form.{Form, Means}

-- the parts of a request that a line asks for are within its forms
form_request : (line : List ℕ) (r : Request) → Form line r → IsRequest r
form_request line (Mkdir p) h = h.parts.1
form_request line (Create p) h = h.parts.1
form_request line (Region p m n) h = (h.0.parts.first_is.1, h.1, h.2)
form_request line (Write p n b) h = (h.parts.first_is.1, h.parts.rest_is.rest_is.1)
form_request line (Read p m n) h = (h.0.parts.first_is.1, h.1)
form_request line (Truncate p n) h = h.parts.first_is.1
form_request line (Unlink p) h = h.parts.1
form_request line (Rmdir p) h = h.parts.1
form_request line (Rename p q) h = (h.parts.first_is.1, h.parts.rest_is.1)
form_request line (Stat p) h = h.parts.1
form_request line (ListOf p) h = h.parts.1
form_request line Sync h = tt
form_request line (Begin p) h = h.parts.1
form_request line (Range p m n) h = h.parts.first_is.1
form_request line (Put p n b) h = (h.parts.first_is.1, h.parts.rest_is.rest_is.1)
form_request line (Get p m n) h = (h.0.parts.first_is.1, h.1)
form_request line (Alloc p n) h = (h.0.parts.first_is.1, h.1)
form_request line (Free p n) h = h.parts.first_is.1
form_request line (Commit p) h = h.parts.1
form_request line (Abort p) h = h.parts.1
form_request line Txns h = tt
form_request line (Flush n) h = tt
form_request line (Wild n v) h = tt
form_request line (Arm m n v) h = tt

-- those of a request that some line asks for
pub asked_request : (r : Request) → ((line : List ℕ) × Means line (Some r)) → IsRequest r
asked_request r (line, form) = form_request line r form
