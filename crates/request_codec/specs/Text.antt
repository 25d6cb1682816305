-- The text of a reply: one line. Numbers are decimal, bytes are lower-case hexadecimal.
use Rattle.std.specs.Prelude.{◌==◌, ℕ, List, [], ◌∷◌, ◌++◌, length, codes, flat_map, if◌then◌else◌}
use Rattle.std.specs.Fmt.{decimal}
use Rattle.hex.specs.Hex.{encode_lower}
use Rattle.rio_base.specs.declared.places.Ino.{Ino}
use Rattle.rio_base.specs.NodeKinds.{dir_kind, file_kind}
use Rattle.rio_requests.specs.declared.reply.Reply.{Reply}
use Rattle.rio_requests.specs.declared.reply.Reply.TheVariants.{Ok as Done, Number, Bytes, Stat, Names, Inos, Err as Refused, Fault}

abbrev pub kind_name : ℕ → List ℕ
kind_name kind = if kind == dir_kind then codes "dir" else if kind == file_kind then codes "file" else codes "region"

-- a name behind a space
abbrev pub listed_name : List ℕ → List ℕ
listed_name name = 32 ∷ name

-- an inode number behind a space
abbrev pub listed_ino : Ino → List ℕ
listed_ino i = 32 ∷ decimal i.0

-- the line without its end
abbrev pub body_of : Reply → List ℕ
body_of Done = codes "ok"
body_of (Number n) = codes "ok " ++ decimal n
body_of (Bytes bytes) = codes "ok " ++ encode_lower bytes
body_of (Stat ino kind size) = codes "ok " ++ decimal ino.0 ++ codes " " ++ kind_name kind ++ codes " " ++ decimal size
body_of (Names names) = codes "ok " ++ decimal (length names) ++ flat_map listed_name names
body_of (Inos inos) = codes "ok " ++ decimal (length inos) ++ flat_map listed_ino inos
body_of (Refused number) = codes "err " ++ decimal number
body_of (Fault done) = codes "err 30 " ++ decimal done

abbrev pub text_of : Reply → List ℕ
text_of reply = body_of reply ++ 10 ∷ []
