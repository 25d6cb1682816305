-- What a write to a file of a host makes of that file.
use Rattle.std.proofs.Common.{ℕ, ◌*◌, List, Option, Some, None, inl, inr, ap, ◌∙◌}
use Rattle.std.specs.Prelude.{OnErr, OnOk, Result, Ok, Err}
use Rattle.rio_base.specs.Bytes.{bytes_of}
use Rattle.rio_base.specs.Hosts.{Files, Overwrites, TearsWithin, bytes_in, overwritten}
use Rattle.block_disk.proofs.HostFiles.{get_put}
use Rattle.held_memory.specs.WordFiles.{TearsWords, WritesWords, file_in}

pub host_written : (at : ℕ) (words : List ℕ) (told new : Option Files) (name : List ℕ) → Overwrites told name (8 * at) (bytes_of words) new → WritesWords at words (file_in told name) (file_in new name)
host_written at words None new name e = ap (λ (t : Option Files). file_in t name) e
host_written at words (Some files) new name e =
    let put : List ℕ = overwritten (bytes_in files name) (8 * at) (bytes_of words) in
    ap (λ (t : Option Files). file_in t name) e ∙ ap (λ (f : Option (List ℕ)). Some f) (get_put files name put)

pub host_torn : (at n : ℕ) (told new : Option Files) (name : List ℕ) → TearsWithin told name (8 * at) (8 * n) new → TearsWords at n (file_in told name) (file_in new name)
host_torn at n None new name e = ap (λ (t : Option Files). file_in t name) e
host_torn at n (Some files) new name (inl e) = inl (ap (λ (t : Option Files). file_in t name) e)
host_torn at n (Some files) new name (inr (torn, differ, e)) =
    inr (torn, differ, ap (λ (t : Option Files). file_in t name) e ∙ ap (λ (f : Option (List ℕ)). Some f) (get_put files name torn))

-- of an answer of either kind
pub on_ok : {T E : Type 0} (r : Result T E) (P Q : Type 0) → (P → Q) → OnOk r P → OnOk r Q
on_ok (Ok x) P Q f p = f p
on_ok (Err e) P Q f p = p

pub on_err : {T E : Type 0} (r : Result T E) (P Q : Type 0) → (P → Q) → OnErr r P → OnErr r Q
on_err (Ok x) P Q f p = p
on_err (Err e) P Q f p = f p
