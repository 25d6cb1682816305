use Rattle.std.proofs.Common.{refl}
use Rattle.file_store_tests.proofs.Played.{held_ok}
use Rattle.file_store_tests.proofs.held_calls.answers_at.Goals as goal

pub returns-in-RegionOf-clause-follows : goal.returns-in-RegionOf-clause-follows
returns-in-RegionOf-clause-follows c = held_ok _ _ _ _ _ c.region_of_held.ensures.can c.region_of_held.ensures.in_step

pub returns-then-not-is_path-clause-follows : goal.returns-then-not-is_path-clause-follows
returns-then-not-is_path-clause-follows c = held_ok _ _ _ _ _ c.requires.can c.requires.in_step

pub region_held-requires-clause-path : goal.region_held-requires-clause-path
region_held-requires-clause-path c = c.if-not-is_path.ensures.0 refl

pub region_of_held-requires-clause-path : goal.region_of_held-requires-clause-path
region_of_held-requires-clause-path c = c.if-not-is_path.ensures.0 refl

pub write_many_held-requires-clause-path : goal.write_many_held-requires-clause-path
write_many_held-requires-clause-path c = c.if-not-is_path.ensures.0 refl

pub unlink_held-requires-clause-path : goal.unlink_held-requires-clause-path
unlink_held-requires-clause-path c = c.if-not-is_path.ensures.0 refl

pub rename_held-requires-clause-path : goal.rename_held-requires-clause-path
rename_held-requires-clause-path c = c.if-not-is_path.ensures.0 refl

pub bytes_held-requires-clause-path : goal.bytes_held-requires-clause-path
bytes_held-requires-clause-path c = c.if-not-is_path.ensures.0 refl
