-- What the rule for the transaction status says: only opening texts leave the idle status, COMMIT and ROLLBACK come back to it.
use Rattle.pg_wire.specs.declared.status.TransactionStatus.{TransactionStatus}
use Rattle.std.proofs.Common.{◌≡◌, ◌≢◌, ℕ, Bool, true, false, cond, ◌||◌, List, Some, None, IsTrue, codes, bytes_eq, refl, ◌⊎◌, inl, inr}
use Rattle.std.specs.List.{list_any}
use Rattle.std.proofs.lemmas.Slice.Eq.{bytes_eq-Decides}
use Rattle.pg_wire.specs.Transactions.{StatusAfter, StatusAfterSuccess, rolls_back_to}
use Rattle.pg_wire.specs.declared.status.TransactionStatus.TheVariants as statuses

-- a text that may open a transaction
abbrev Opens : List (List ℕ) → List ℕ → Type 0
Opens openings sql = (sql ≡ codes "BEGIN") ⊎ IsTrue (list_any (bytes_eq sql) openings)

-- the rule behind a Query that went well, by its tests
by_tests : (begin' ends own back : Bool) (T I O B K X : Type 0) → (begin' ≡ true → T → X) → (I → X) → (own ≡ true → O → X) → (B → X) → (K → X) → cond begin' T (cond ends I (cond own O (cond back B K))) → X
by_tests true ends own back T I O B K X t i o b k h = t refl h
by_tests false true own back T I O B K X t i o b k h = i h
by_tests false false true back T I O B K X t i o b k h = o refl h
by_tests false false false true T I O B K X t i o b k h = b h
by_tests false false false false T I O B K X t i o b k h = k h

opened : (openings : List (List ℕ)) (sql : List ℕ) (after : TransactionStatus) → StatusAfterSuccess openings statuses.Idle sql after → after ≢ statuses.Idle → Opens openings sql
opened openings sql after h n = by_tests (bytes_eq sql (codes "BEGIN")) (bytes_eq sql (codes "COMMIT") || bytes_eq sql (codes "ROLLBACK")) (list_any (bytes_eq sql) openings) (rolls_back_to sql) _ _ _ _ _ _
    (λ e t. inl ((bytes_eq-Decides sql (codes "BEGIN")).0 e))
    (λ (i : after ≡ statuses.Idle). absurd (n i))
    (λ e o. inr e)
    (λ (b : after ≡ statuses.Idle). absurd (n b))
    (λ (k : after ≡ statuses.Idle). absurd (n k))
    h

pub only_openings : (openings : List (List ℕ)) (sql : List ℕ) (failed : Bool) (after : TransactionStatus) → StatusAfter openings statuses.Idle (Some sql) failed after → after ≢ statuses.Idle
    → (failed ≡ false) × ((sql ≡ codes "BEGIN") ⊎ IsTrue (list_any (bytes_eq sql) openings))
only_openings openings sql true after h n = absurd (n h)
only_openings openings sql false after h n = (refl, opened openings sql after h n)

pub sync_opens_none : (openings : List (List ℕ)) (failed : Bool) (after : TransactionStatus) → StatusAfter openings statuses.Idle None failed after → after ≡ statuses.Idle
sync_opens_none openings true after h = h
sync_opens_none openings false after h = h

pub commit_is_idle : (openings : List (List ℕ)) (before after : TransactionStatus) → StatusAfter openings before (Some (codes "COMMIT")) false after → after ≡ statuses.Idle
commit_is_idle openings before after h = h

pub rollback_is_idle : (openings : List (List ℕ)) (before after : TransactionStatus) → StatusAfter openings before (Some (codes "ROLLBACK")) false after → after ≡ statuses.Idle
rollback_is_idle openings before after h = h

failed_in : (commit : Bool) (sql : List ℕ) (after : TransactionStatus) → bytes_eq sql (codes "COMMIT") ≡ commit → cond commit ((after ≡ statuses.Idle) ⊎ (after ≡ statuses.Error)) (after ≡ statuses.Error)
    → (after ≡ statuses.Error) ⊎ ((sql ≡ codes "COMMIT") × (after ≡ statuses.Idle))
failed_in true sql after e (inl h) = inr ((bytes_eq-Decides sql (codes "COMMIT")).0 e, h)
failed_in true sql after e (inr h) = inl h
failed_in false sql after e h = inl h

pub error_fails : (openings : List (List ℕ)) (before : TransactionStatus) (sql : List ℕ) (after : TransactionStatus) → before ≢ statuses.Idle → StatusAfter openings before (Some sql) true after
    → (after ≡ statuses.Error) ⊎ ((sql ≡ codes "COMMIT") × (after ≡ statuses.Idle))
error_fails openings statuses.Idle sql after n h = absurd (n refl)
error_fails openings statuses.Transaction sql after n h = failed_in (bytes_eq sql (codes "COMMIT")) sql after refl h
error_fails openings statuses.Error sql after n h = failed_in (bytes_eq sql (codes "COMMIT")) sql after refl h

pub sync_error_fails : (openings : List (List ℕ)) (before after : TransactionStatus) → before ≢ statuses.Idle → StatusAfter openings before None true after → after ≡ statuses.Error
sync_error_fails openings statuses.Idle after n h = absurd (n refl)
sync_error_fails openings statuses.Transaction after n h = h
sync_error_fails openings statuses.Error after n h = h
