-- The texts that begin and end transactions and savepoints (PostgreSQL manual, "SQL Commands": BEGIN, SAVEPOINT, COMMIT, RELEASE SAVEPOINT,
-- ROLLBACK, ROLLBACK TO SAVEPOINT). The savepoint of number 1 is the first within the transaction.
use Rattle.std.specs.Prelude.{ℕ, List, ◌++◌, Option, Some, None, nat_eq, codes, decimal, if◌then◌else◌}

abbrev pub savepoint : ℕ → List ℕ
savepoint depth = codes "_sqlx_savepoint_" ++ decimal depth

-- the caller's own text, where there is one, opens a transaction alone
abbrev pub opening_text : Option (List ℕ) → List ℕ
opening_text None = codes "BEGIN"
opening_text (Some sql) = sql

-- by how many are open before
abbrev pub begin_text : Option (List ℕ) → ℕ → List ℕ
begin_text text depth = if nat_eq depth 0 then opening_text text else codes "SAVEPOINT " ++ savepoint depth

-- by how many stay open behind it
abbrev pub commit_text : ℕ → List ℕ
commit_text left = if nat_eq left 0 then codes "COMMIT" else codes "RELEASE SAVEPOINT " ++ savepoint left

abbrev pub rollback_text : ℕ → List ℕ
rollback_text left = if nat_eq left 0 then codes "ROLLBACK" else codes "ROLLBACK TO SAVEPOINT " ++ savepoint left
