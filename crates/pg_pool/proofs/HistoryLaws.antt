-- A history that goes on by an act that its state allows is one that one thread could have made.
use Rattle.std.proofs.Common.{ℕ, not, drop, ◌+◌, ◌<◌, ◌≤◌, ◌≡◌, Bool, true, false, ◌&&◌, List, [], ◌∷◌, ◌++◌, length, refl, ap, ◌∙◌, arith}
use Rattle.std.proofs.lemmas.Grind.{common_steps}
use Rattle.std.proofs.lemmas.Bool.Decides.{nat_tests}
use lib.ListN.{length-append}
use Rattle.pg_wire.proofs.Tests.{both_true}
use Rattle.pg_wire.specs.declared.pool.PoolAct.{PoolAct}
use Rattle.pg_wire.specs.declared.pool.PoolAct.TheVariants.{GotIdle, GotNew, Full, WasClosed, Kept, Dropped, Close}
use Rattle.pg_wire.specs.declared.pool.PoolEntry.{PoolEntry}
use Rattle.pg_pool.specs.PoolHistory.{PoolState, fresh, has, without, may, after, state_after, state_of, is_legal}
use Rattle.pg_pool.specs.PoolLogs.{Fits, CanReturn, HasPlaces, UnlessReturn}
use Rattle.pg_pool.proofs.IdLaws.{shorter, no_longer, popped, one_more}

pub state_after-more : (s : PoolState) (es : List PoolEntry) (e : PoolEntry) → state_after s (es ++ e ∷ []) ≡ after (state_after s es) e.act
state_after-more s [] e = refl
state_after-more s (x ∷ es) e = state_after-more (after s x.act) es e

is_legal-more : (most : ℕ) (s : PoolState) (es : List PoolEntry) (e : PoolEntry) → is_legal most s es ≡ true → may most (state_after s es) e.act ≡ true
    → is_legal most s (es ++ e ∷ []) ≡ true
is_legal-more most s [] e legal allowed = rw allowed refl
is_legal-more most s (x ∷ es) e legal allowed = let t = both_true (may most s x.act) _ legal in rw (t.0, is_legal-more most (after s x.act) es e t.1 allowed) refl

-- as many are out or idle as before, or one fewer, or one more where there was room
seats_more : (most : ℕ) (s : PoolState) (act : PoolAct) → length s.idle + length s.out ≤ most → may most s act ≡ true
    → (length (after s act).idle + length (after s act).out ≤ most)
seats_more most s (GotIdle id) h allowed = let n : length (drop 1 s.idle) + length (s.out ++ id ∷ []) ≡ length s.idle + length s.out = popped s.idle s.out id (both_true (not s.closed) _ allowed).1 in omega arith
seats_more most s (GotNew id) h allowed = let n = one_more s.out id in grind (arith, nat_tests, common_steps)
seats_more most s (Full out idle) h allowed = h
seats_more most s WasClosed h allowed = h
seats_more most s (Kept id) h allowed = let n = one_more s.idle id in let m : length (without id s.out) + 1 ≡ length s.out = shorter id s.out (both_true (not s.closed) _ allowed).1 in omega arith
seats_more most s (Dropped id) h allowed = let m = shorter id s.out allowed in omega arith
seats_more most s Close h allowed = omega arith

next_more : (s : PoolState) (act : PoolAct) (n : ℕ) → s.next ≤ n → (after s act).next ≤ n + 1
next_more s (GotIdle id) n h = omega arith
next_more s (GotNew id) n h = omega arith
next_more s (Full out idle) n h = omega arith
next_more s WasClosed n h = omega arith
next_more s (Kept id) n h = omega arith
next_more s (Dropped id) n h = omega arith
next_more s Close n h = omega arith

pub fits_more : (most : ℕ) (es : List PoolEntry) (s : PoolState) (e : PoolEntry) → Fits most es s → may most s e.act ≡ true → Fits most (es ++ e ∷ []) (after s e.act)
fits_more most es s e f allowed =
    let now : may most (state_after fresh es) e.act ≡ true = rw f.state allowed in
    let longer : length (es ++ e ∷ []) ≡ length es + 1 = length-append es (e ∷ []) in
    record {
      state = state_after-more fresh es e ∙ ap (λ (t : PoolState). after t e.act) f.state;
      legal = is_legal-more most fresh es e f.legal now;
      next = rw longer (next_more s e.act (length es) f.next);
      seats = seats_more most s e.act f.seats allowed;
    }

-- each that is out can still come back, behind one entry more
pub returns_more : (most : ℕ) (s : PoolState) (act : PoolAct) (room idle_places out_places : ℕ) → CanReturn s room idle_places → may most s act ≡ true
    → UnlessReturn act (HasPlaces s room idle_places out_places) → (length (after s act).out < room) × (length (after s act).idle + length (after s act).out ≤ idle_places)
returns_more most s (GotIdle id) room idle_places out_places c allowed p =
    let n : length (drop 1 s.idle) + length (s.out ++ id ∷ []) ≡ length s.idle + length s.out = popped s.idle s.out id (both_true (not s.closed) _ allowed).1 in
    let m = one_more s.out id in
    let i = c.ids in
    let r = p.entries in
    (omega arith, omega arith)
returns_more most s (GotNew id) room idle_places out_places c allowed p =
    let m = one_more s.out id in
    let i = p.ids in
    let r = p.entries in
    (omega arith, omega arith)
returns_more most s (Full out idle) room idle_places out_places c allowed p = let i = c.ids in let r = p.entries in (omega arith, i)
returns_more most s WasClosed room idle_places out_places c allowed p = let i = c.ids in let r = p.entries in (omega arith, i)
returns_more most s (Kept id) room idle_places out_places c allowed p =
    let n = one_more s.idle id in
    let m : length (without id s.out) + 1 ≡ length s.out = shorter id s.out (both_true (not s.closed) _ allowed).1 in
    let i = c.ids in
    let r = c.entries in
    (omega arith, omega arith)
returns_more most s (Dropped id) room idle_places out_places c allowed p =
    let m = shorter id s.out allowed in
    let i = c.ids in
    let r = c.entries in
    (omega arith, omega arith)
returns_more most s Close room idle_places out_places c allowed p = let i = c.ids in let r = p.entries in (omega arith, omega arith)

-- what follows from the room does so for each act that needs room
pub unless_return : {A B : Type 0} (act : PoolAct) → (A → B) → UnlessReturn act A → UnlessReturn act B
unless_return (GotIdle id) f a = f a
unless_return (GotNew id) f a = f a
unless_return (Full out idle) f a = f a
unless_return WasClosed f a = f a
unless_return (Kept id) f a = a
unless_return (Dropped id) f a = a
unless_return Close f a = f a

-- one act hands out one at most
pub out_more : (s : PoolState) (act : PoolAct) → length (after s act).out ≤ length s.out + 1
out_more s (GotIdle id) = let m = one_more s.out id in omega arith
out_more s (GotNew id) = let m = one_more s.out id in omega arith
out_more s (Full out idle) = omega arith
out_more s WasClosed = omega arith
out_more s (Kept id) = let m = no_longer id s.out in omega arith
out_more s (Dropped id) = let m = no_longer id s.out in omega arith
out_more s Close = omega arith
