-- The parts of an answer, one behind the other, are its messages.
use Rattle.std.proofs.Common.{◌≡◌, List, ℕ, suc, ◌+◌, [], ◌∷◌, ◌++◌, length, codes, Result, Ok, Err, IfOk, append-nil, arith}
use Rattle.pg_wire.specs.Backend.{RowDescription, CommandComplete, ReadyForQuery}
use Rattle.pg_wire.specs.declared.status.TransactionStatus.TheVariants.{Idle}
use Rattle.pg_wire.specs.Exchanges.{one_column}
use Rattle.pg_sample.specs.Sample.{response, spelled, row_head}

-- the number of values, the value's length, and the length itself are ten bytes
row_size : (n : ℕ) → suc (suc (suc (suc (suc (suc n))))) + 4 ≡ n + 10
row_size n = omega arith

pub answer_is : {E : Type 0} (value : List ℕ) (r : Result (List ℕ) E)
    → IfOk r (λ b. b ≡ spelled (RowDescription (one_column ∷ []) ∷ []) ++ row_head (length value) ++ value ++ spelled (CommandComplete (codes "SELECT 1") ∷ ReadyForQuery Idle ∷ []))
    → IfOk r (λ b. b ≡ spelled (response value))
answer_is value (Ok b) e = rw (append-nil value, row_size (length value)) e
answer_is value (Err _) e = tt
