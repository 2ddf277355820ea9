-- What an audit without a refusal says of each receipt.
use Rattle.std.proofs.Common.{ℕ, ◌≡◌, ◌+◌, Bool, true, false, cond, nat_eq, List, [], ◌∷◌, ◌++◌, length, Option, Some, None, refl, ap, ◌∙◌, arith}
use Rattle.std.proofs.lemmas.Grind.{common_steps}
use Rattle.std.proofs.lemmas.Bool.Decides.{nat_tests}
use Rattle.std.specs.List.{AllByRecursion, slice_get}
use Rattle.pg_wire.proofs.Tests.{both_true}
use Rattle.pg_wire.specs.declared.pool.PoolAct.{PoolAct}
use Rattle.pg_wire.specs.declared.pool.PoolAct.TheVariants.{GotIdle, GotNew, Full, WasClosed, Kept, Dropped, Close}
use Rattle.pg_wire.specs.declared.pool.PoolEntry.{PoolEntry}
use Rattle.pg_wire.specs.declared.error.Error.{Error}
use Rattle.pg_pool.specs.declared.seat.Receipt.{Receipt}
use Rattle.pg_pool.specs.Seats.{SeatSeen}
use Rattle.pg_pool.specs.Audits.{same_act, same_entry, is_kept_as, stands, first_of, receipts_difference, seats_difference, receipts_in}

pub receipts_in-more : (seats : List SeatSeen) (s : SeatSeen) → receipts_in (seats ++ s ∷ []) ≡ receipts_in seats + length s.receipts
receipts_in-more [] s = omega arith
receipts_in-more (x ∷ seats) s = omega (arith, receipts_in-more seats s)

same_number : (a b : ℕ) → nat_eq a b ≡ true → a ≡ b
same_number a b h = grind (arith, nat_tests, common_steps)

same_act_is : (a b : PoolAct) → same_act a b ≡ true → a ≡ b
same_act_is (GotIdle id) (GotIdle other) h = ap (λ (n : ℕ). GotIdle n) (same_number id other (both_true (nat_eq id other) true h).0)
same_act_is (GotNew id) (GotNew other) h = ap (λ (n : ℕ). GotNew n) (same_number id other (both_true (nat_eq id other) true h).0)
same_act_is (Full out idle) (Full others rest) h =
    let t = both_true (nat_eq out others) (nat_eq idle rest) h in
    rw (same_number out others t.0, same_number idle rest t.1) refl
same_act_is WasClosed WasClosed h = refl
same_act_is (Kept id) (Kept other) h = ap (λ (n : ℕ). Kept n) (same_number id other (both_true (nat_eq id other) true h).0)
same_act_is (Dropped id) (Dropped other) h = ap (λ (n : ℕ). Dropped n) (same_number id other (both_true (nat_eq id other) true h).0)
same_act_is Close Close h = refl
same_act_is _ _ h = absurd cc

entry : ℕ → PoolAct → PoolEntry
entry seat act = record { seat = seat; act = act }

same_entry_is : (e f : PoolEntry) → same_entry e f ≡ true → e ≡ f
unfolding entry
same_entry_is e f h =
    let t = both_true (nat_eq e.seat f.seat) (same_act e.act f.act) h in
    let n = same_number e.seat f.seat t.0 in
    let a = same_act_is e.act f.act t.1 in
    ap (λ (k : ℕ). entry k e.act) n ∙ ap (λ (x : PoolAct). entry f.seat x) a

first_none : (a b : Option Error) → first_of a b ≡ None → (a ≡ None) × (b ≡ None)
first_none None b e = (refl, e)
first_none (Some x) b e = absurd cc

unrefused : (b : Bool) (x : Error) → cond b None (Some x) ≡ None → b ≡ true
unrefused true x e = refl
unrefused false x e = absurd cc

kept_is : (held : PoolEntry) (kept : Option PoolEntry) → is_kept_as held kept ≡ true → kept ≡ Some held
kept_is held None h = absurd cc
kept_is held (Some e) h = ap (λ (x : PoolEntry). Some x) (same_entry_is e held h)

receipts_stand : (history : List PoolEntry) (seat : ℕ) (rs : List Receipt) → receipts_difference history seat rs ≡ None
    → AllByRecursion (λ (r : Receipt). slice_get history r.place ≡ Some r.entry) rs
receipts_stand history seat [] e = tt
receipts_stand history seat (r ∷ rs) e =
    let t = first_none _ (receipts_difference history seat rs) e in
    (kept_is r.entry (slice_get history r.place) (unrefused (stands history r) _ t.0), receipts_stand history seat rs t.1)

pub seats_stand : (history : List PoolEntry) (seats : List SeatSeen) → seats_difference history seats ≡ None
    → AllByRecursion (λ (s : SeatSeen). AllByRecursion (λ (r : Receipt). slice_get history r.place ≡ Some r.entry) s.receipts) seats
seats_stand history [] e = tt
seats_stand history (s ∷ seats) e =
    let t = first_none (receipts_difference history s.number s.receipts) (seats_difference history seats) e in
    (receipts_stand history s.number s.receipts t.0, seats_stand history seats t.1)
