-- The texts of transactions and savepoints hold no zero byte.
use Rattle.std.proofs.Common.{ℕ, ◌<◌, ◌^◌, Bool, true, false, cond, nat_eq, List, ◌++◌, Option, Some, None, IfSome, codes, decimal, refl}
use Rattle.pg_wire.specs.Bytes.{HasNoNul}
use Rattle.pg_request.specs.Texts.{savepoint, opening_text, begin_text, commit_text, rollback_text}
use Rattle.pg_wire.proofs.NameLaws.{nul_free_append, decimal_nul_free}

pub savepoint_said : (front : List ℕ) (depth : ℕ) → HasNoNul front → depth < 2 ^ 64 → HasNoNul (front ++ savepoint depth)
savepoint_said front depth h lt = nul_free_append front (savepoint depth) h (nul_free_append (codes "_sqlx_savepoint_") (decimal depth) refl (decimal_nul_free depth lt))

opening_said : (text : Option (List ℕ)) → IfSome text HasNoNul → HasNoNul (opening_text text)
opening_said None h = refl
opening_said (Some sql) h = h

pub begin_said : (text : Option (List ℕ)) (depth : ℕ) → IfSome text HasNoNul → depth < 2 ^ 64 → HasNoNul (begin_text text depth)
begin_said text depth h lt = by (nat_eq depth 0)
  where
    by : (b : Bool) → HasNoNul (cond b (opening_text text) (codes "SAVEPOINT " ++ savepoint depth))
    by true = opening_said text h
    by false = savepoint_said (codes "SAVEPOINT ") depth refl lt

pub commit_said : (left : ℕ) → left < 2 ^ 64 → HasNoNul (commit_text left)
commit_said left lt = by (nat_eq left 0)
  where
    by : (b : Bool) → HasNoNul (cond b (codes "COMMIT") (codes "RELEASE SAVEPOINT " ++ savepoint left))
    by true = refl
    by false = savepoint_said (codes "RELEASE SAVEPOINT ") left refl lt

pub rollback_said : (left : ℕ) → left < 2 ^ 64 → HasNoNul (rollback_text left)
rollback_said left lt = by (nat_eq left 0)
  where
    by : (b : Bool) → HasNoNul (cond b (codes "ROLLBACK") (codes "ROLLBACK TO SAVEPOINT " ++ savepoint left))
    by true = refl
    by false = savepoint_said (codes "ROLLBACK TO SAVEPOINT ") left refl lt
