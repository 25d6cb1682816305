use Rattle.std.proofs.Common.{refl}
use Rattle.file_store_tests.proofs.Played.{follows_ok}
use Rattle.file_store_tests.proofs.calls.answers_at.Goals as goal

pub returns-in-RegionOf-clause-follows : goal.returns-in-RegionOf-clause-follows
returns-in-RegionOf-clause-follows c = follows_ok _ _ _ _ c.region_of_as.ensures.can

pub returns-then-not-is_path-clause-follows : goal.returns-then-not-is_path-clause-follows
returns-then-not-is_path-clause-follows c = follows_ok _ _ _ _ c.requires.can

pub region_as-requires-clause-path : goal.region_as-requires-clause-path
region_as-requires-clause-path c = c.if-not-is_path.ensures.0 refl

pub region_of_as-requires-clause-path : goal.region_of_as-requires-clause-path
region_of_as-requires-clause-path c = c.if-not-is_path.ensures.0 refl

pub write_many_as-requires-clause-path : goal.write_many_as-requires-clause-path
write_many_as-requires-clause-path c = c.if-not-is_path.ensures.0 refl

pub unlink_as-requires-clause-path : goal.unlink_as-requires-clause-path
unlink_as-requires-clause-path c = c.if-not-is_path.ensures.0 refl

pub rename_as-requires-clause-path : goal.rename_as-requires-clause-path
rename_as-requires-clause-path c = c.if-not-is_path.ensures.0 refl

pub bytes_as-requires-clause-path : goal.bytes_as-requires-clause-path
bytes_as-requires-clause-path c = c.if-not-is_path.ensures.0 refl
