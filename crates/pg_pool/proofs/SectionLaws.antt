-- A section keeps what lies under the lock in step with its history.
use Rattle.std.proofs.Common.{ℕ, drop, ◌+◌, ◌≤◌, ◌≡◌, Bool, true, false, ◌&&◌, List, [], ◌∷◌, ◌++◌, length, refl, sym, ap, subst, ◌∙◌, arith}
use Rattle.std.proofs.lemmas.Grind.{common_steps}
use Rattle.std.proofs.lemmas.Bool.Decides.{nat_tests}
use lib.ListN.{length-append}
use Rattle.pg_wire.proofs.Tests.{both_true}
use Rattle.pg_wire.specs.declared.pool.PoolAct.{PoolAct}
use Rattle.pg_wire.specs.declared.pool.PoolAct.TheVariants.{GotIdle, Full, Kept, Close}
use Rattle.pg_wire.specs.declared.pool.PoolEntry.{PoolEntry}
use Rattle.pg_pool.specs.declared.seat.Receipt.{Receipt}
use Rattle.pg_pool.specs.PoolHistory.{PoolState, state_of, may, after}
use Rattle.pg_pool.specs.PoolLogs.{LogSeen, log_state}
use Rattle.pg_pool.specs.Seats.{SeatSeen, Becomes}
use Rattle.pg_pool.specs.Sections.{PoolOf, all_clean, InStep, IsLeft, IsAdded}

dropped : {A B : Type 0} (xs : List A) (ys : List B) → length xs ≡ length ys → length (drop 1 xs) ≡ length (drop 1 ys)
dropped [] [] h = refl
dropped [] (y ∷ ys) h = omega arith
dropped (x ∷ xs) [] h = omega arith
dropped (x ∷ xs) (y ∷ ys) h = omega arith

clean_rest : {C : Type 0} (clean : C → Bool) (cs : List C) → all_clean clean cs ≡ true → all_clean clean (drop 1 cs) ≡ true
clean_rest clean [] h = refl
clean_rest clean (c ∷ cs) h = (both_true (clean c) _ h).1

clean_more : {C : Type 0} (clean : C → Bool) (cs : List C) (c : C) → all_clean clean cs ≡ true → clean c ≡ true → all_clean clean (cs ++ c ∷ []) ≡ true
clean_more clean [] c h k = rw k refl
clean_more clean (d ∷ cs) c h k = let t = both_true (clean d) _ h in rw (t.0, clean_more clean cs c t.1 k) refl

module _ {C : Type 0} (clean : C → Bool) (a r b : LogSeen) (conns : List C) (total now : ℕ) (e : PoolEntry) (step : InStep clean a conns total) (same : r.history ≡ a.history)
    (longer : b.history ≡ r.history ++ e ∷ []) (state : log_state b ≡ after (log_state r) e.act) (counted : now ≡ total + 1) where
  state' : log_state b ≡ after (log_state a) e.act
  state' = state ∙ ap (λ (h : List PoolEntry). after (state_of h) e.act) same

  count : length b.history ≡ now
  count = let one : length b.history ≡ length r.history + 1 = ap (λ (h : List PoolEntry). length h) longer ∙ length-append r.history (e ∷ []) in
      let two : length r.history ≡ length a.history = ap (λ (h : List PoolEntry). length h) same in let three = step.count in omega arith

  pub got_idle : (id : ℕ) (rest : List C) → e.act ≡ GotIdle id → rest ≡ drop 1 conns → InStep clean b rest now
  got_idle id rest act pop =
      let here : log_state b ≡ after (log_state a) (GotIdle id) = state' ∙ ap (λ (x : PoolAct). after (log_state a) x) act in
      record {
        lengths = ap (λ (xs : List C). length xs) pop ∙ (dropped conns (log_state a).idle step.lengths ∙ sym (ap (λ (s : PoolState). length s.idle) here));
        clean = ap (λ (xs : List C). all_clean clean xs) pop ∙ clean_rest clean conns step.clean;
        count = count;
      }

  pub got_none : ((s : PoolState) → (after s e.act).idle ≡ s.idle) → InStep clean b conns now
  got_none idle = record {
    lengths = step.lengths ∙ sym (ap (λ (s : PoolState). length s.idle) state' ∙ ap (λ (xs : List ℕ). length xs) (idle (log_state a)));
    clean = step.clean;
    count = count;
  }

  pub stays : (id : ℕ) (conn : C) (held : List C) → e.act ≡ Kept id → clean conn ≡ true → held ≡ conns ++ conn ∷ [] → InStep clean b held now
  stays id conn held act is_clean is =
      let here : log_state b ≡ after (log_state a) (Kept id) = state' ∙ ap (λ (x : PoolAct). after (log_state a) x) act in
      let one : length (conns ++ conn ∷ []) ≡ length conns + 1 = length-append conns (conn ∷ []) in
      let two : length ((log_state a).idle ++ id ∷ []) ≡ length (log_state a).idle + 1 = length-append (log_state a).idle (id ∷ []) in
      let three : length (log_state b).idle ≡ length ((log_state a).idle ++ id ∷ []) = ap (λ (s : PoolState). length s.idle) here in
      let four : length held ≡ length (conns ++ conn ∷ []) = ap (λ (xs : List C). length xs) is in
      let five = step.lengths in
      record {
        lengths = omega arith;
        clean = ap (λ (xs : List C). all_clean clean xs) is ∙ clean_more clean conns conn step.clean is_clean;
        count = count;
      }

  pub all_go : (held : List C) → e.act ≡ Close → held ≡ [] → InStep clean b held now
  all_go held act is =
      let here : log_state b ≡ after (log_state a) Close = state' ∙ ap (λ (x : PoolAct). after (log_state a) x) act in
      record {
        lengths = ap (λ (xs : List C). length xs) is ∙ sym (ap (λ (s : PoolState). length s.idle) here);
        clean = ap (λ (xs : List C). all_clean clean xs) is;
        count = count;
      }

pub entry : ℕ → PoolAct → PoolEntry
entry seat act = record { seat = seat; act = act }

pub receipt : ℕ → PoolEntry → Receipt
receipt place e = record { place = place; entry = e }

-- what a pool's log and its connections are seen as
abbrev pub pool_of : {C : Type 0} → LogSeen → List C → PoolOf C
pool_of l conns = record { history = l.history; most = l.most; kept = conns }

-- a section that noted nothing
pub left_alone : {C : Type 0} (s u : SeatSeen) (a b : LogSeen) (conns : List C) → Becomes s u s.receipts s.ids → b.history ≡ a.history → b.most ≡ a.most
    → IsLeft s u (pool_of a conns) (pool_of b conns)
left_alone s u a b conns seat history most = record { history = history; most = most; kept = refl; seat = seat }

-- a section: what it did to the log and the participant before it noted its act, and what it did to the participant afterwards
pub added : {C : Type 0} (s first t u : SeatSeen) (a r b : LogSeen) (before conns : List C) (act : PoolAct) (mid ids : List ℕ)
    → Becomes s first s.receipts mid → r.history ≡ a.history → r.most ≡ a.most → may r.most (log_state r) act ≡ true
    → b.history ≡ r.history ++ entry first.number act ∷ [] → b.most ≡ r.most
    → Becomes first t (first.receipts ++ receipt (length r.history) (entry first.number act) ∷ []) first.ids → Becomes t u t.receipts ids
    → IsAdded s u (pool_of a before) (pool_of b conns) act ids conns
unfolding entry receipt
added s first t u a r b before conns act mid ids f same most allowed longer mosts noted last = record {
  legal = sym (ap (λ (m : ℕ). may m (log_state r) act) most ∙ ap (λ (h : List PoolEntry). may a.most (state_of h) act) same) ∙ allowed;
  history = longer ∙ ap (λ (h : List PoolEntry). h ++ entry first.number act ∷ []) same ∙ ap (λ (n : ℕ). a.history ++ entry n act ∷ []) f.number;
  most = mosts ∙ most;
  kept = refl;
  seat = record {
    receipts = last.receipts ∙ noted.receipts
        ∙ ap (λ (rs : List Receipt). rs ++ receipt (length r.history) (entry first.number act) ∷ []) f.receipts
        ∙ ap (λ (h : List PoolEntry). s.receipts ++ receipt (length h) (entry first.number act) ∷ []) same
        ∙ ap (λ (n : ℕ). s.receipts ++ receipt (length a.history) (entry n act) ∷ []) f.number;
    ids = last.ids;
    number = last.number ∙ noted.number ∙ f.number;
    name = last.name ∙ noted.name ∙ f.name;
  };
}

-- the same, of an act that is known
pub added_as : {C : Type 0} (s u : SeatSeen) (a b : PoolOf C) (act known : PoolAct) (ids : List ℕ) (conns : List C) → act ≡ known → IsAdded s u a b act ids conns → IsAdded s u a b known ids conns
added_as s u a b act known ids conns is added = subst (λ (x : PoolAct). IsAdded s u a b x ids conns) is added

-- what is full is full at the maximum, with none idle
pub full_is : (most : ℕ) (s : PoolState) (out idle : ℕ) → may most s (Full out idle) ≡ true → Full out idle ≡ Full (length s.out) 0
full_is most s out idle h =
    let o : out ≡ length s.out = grind (arith, nat_tests, common_steps) in
    let i : idle ≡ 0 = grind (arith, nat_tests, common_steps) in
    rw (o, i) refl

-- the connection that leaves is clean
pub first_clean : {C : Type 0} (clean : C → Bool) (conns : List C) (conn : C) (rest : List C) → all_clean clean conns ≡ true → conns ≡ conn ∷ rest → clean conn ≡ true
first_clean {C} clean conns conn rest h e = (both_true (clean conn) (all_clean clean rest) (sym (ap (λ (cs : List C). all_clean clean cs) e) ∙ h)).0
