-- What becomes of the connection that is held where a listener ends.
use Rattle.std.proofs.Common.{◌≡◌, ◌∙◌, ◌&&◌, ℕ, Bool, true, false, not, ap, inl, inr, refl, subst, sym, Option, Some, None, is_some, option_map, Result, Ok, Err}
use Rattle.pg_stream.specs.Notifications.{none_kept}
use Rattle.pg_pool.specs.Seats.{SeatSeen}
use Rattle.pg_pool.specs.PoolHistory.{state_of}
use Rattle.pg_pool.specs.Sections.{ClosedAt}
use Rattle.pg_wire.specs.declared.error.Error.{Error}
use Rattle.pg_wire.specs.declared.error.Error.TheVariants as errors
use Rattle.pg_pool.specs.declared.handed.Released.TheVariants as released
use Rattle.pg_conn.specs.Cleanliness.{is_clean}
use Rattle.pg_conn.specs.Connections.{ConnOf, left}
use Rattle.pg_conn.specs.News.{with_kept}
use Rattle.pg_listen.specs.Handed.{HeldOf, ReleasedOf}
use Rattle.pg_listen.specs.Pools.{CoreOf, Section}
use Rattle.pg_listening.specs.Leaving.{Drops, GivesBack, HeldIs, OnReleased, RefusesClosed, as_refusal, link_back}

-- what is done with a connection as it is let go
abbrev ended : {C A : Type 0} → (C → ConnOf A) → (C → ConnOf A → C) → Option C → Option C
ended conn with_conn o = option_map (λ c. with_conn c (with_kept none_kept (left (conn c)))) o

module _ {C A : Type 0} (handed : C → HeldOf A) (conn : C → ConnOf A) (with_conn : C → ConnOf A → C) where
  pub gave_back : (most : ℕ) (o n : Option C) (s t : SeatSeen) (r : Option (ReleasedOf A)) → n ≡ ended conn with_conn o → GivesBack most s t (option_map handed n) r → OnReleased handed conn with_conn most o r
  gave_back most o n s t r e p = by o r (subst (λ (x : Option C). GivesBack most s t (option_map handed x) r) e p)
    where
      by : (o : Option C) (r : Option (ReleasedOf A)) → GivesBack most s t (option_map handed (ended conn with_conn o)) r → OnReleased handed conn with_conn most o r
      by None None p = tt
      by None (Some r) p = absurd p
      by (Some c) None p = absurd p
      by (Some c) (Some r) p = (p.0, p.1, p.2, p.3, (s, t, p.4))

  -- there is an answer where one was held
  pub gave_some : (most : ℕ) (o n : Option C) (s t : SeatSeen) (r : Option (ReleasedOf A)) → n ≡ ended conn with_conn o → GivesBack most s t (option_map handed n) r → is_some r ≡ is_some o
  gave_some most o n s t r e p = by o r (subst (λ (x : Option C). GivesBack most s t (option_map handed x) r) e p)
    where
      by : (o : Option C) (r : Option (ReleasedOf A)) → GivesBack most s t (option_map handed (ended conn with_conn o)) r → is_some r ≡ is_some o
      by None None p = refl
      by None (Some r) p = absurd p
      by (Some c) None p = absurd p
      by (Some c) (Some r) p = refl

  -- it is of the pool that it was of
  pub ended_named : ((c : C) (w : ConnOf A) → handed (with_conn c w) ≡ record (handed c) { conn = w }) → (name : ℕ) (o n : Option C) → n ≡ ended conn with_conn o → HeldIs handed name o → HeldIs handed name n
  ended_named handed_with name o n e i = subst (λ (x : Option C). HeldIs handed name x) (sym e) (by o i)
    where
      by : (o : Option C) → HeldIs handed name o → HeldIs handed name (ended conn with_conn o)
      by None i = tt
      by (Some c) i = ap (λ (h : HeldOf A). h.name) (handed_with c (with_kept none_kept (left (conn c)))) ∙ i

-- ---- one that the pool is to keep no longer

never_kept : {P : Type 0} (x y : Bool) → ((x && not true) && y) ≡ true → P
never_kept true y e = absurd cc
never_kept false y e = absurd cc

pub closes : {A : Type 0} (most : ℕ) (s t : SeatSeen) (held : HeldOf A) (answer : Option (ReleasedOf A)) → held.close ≡ true → GivesBack most s t (Some held) answer
    → (link_back answer ≡ Some held.conn.stream.link) × Section {A = A} most (λ a b. Drops s t a b held.id)
closes most s t held None marked back = absurd back
closes {A} most s t held (Some (released.Foreign conn)) marked back = (ap (λ (c : ConnOf A). Some c.stream.link) back.4.0, (back.0, back.1, back.2, back.3, inr (back.4.1, back.4.2)))
closes {A} most s t held (Some (released.Closed conn)) marked back = (ap (λ (c : ConnOf A). Some c.stream.link) back.4.0, (back.0, back.1, back.2, back.3, inl (back.4.1, back.4.3)))
closes most s t held (Some released.Kept) marked back =
    never_kept (not (state_of back.0.history).closed) (is_clean held.conn) (subst (λ (c : Bool). ((not (state_of back.0.history).closed && not c) && is_clean held.conn) ≡ true) marked back.4.1)

-- ---- a pool that was closed

refuses_at : {A : Type 0} (s t : SeatSeen) (a b : CoreOf A) (closed : Result (Option ℕ) Error) → ClosedAt s t a b closed → RefusesClosed s t a b (as_refusal closed)
refuses_at s t a b (Ok (Some place)) c = c
refuses_at s t a b (Ok None) c = c
refuses_at s t a b (Err errors.OutOfMemory) c = c
refuses_at s t a b (Err e) c = absurd c

pub refuses : {A : Type 0} (most : ℕ) (s t : SeatSeen) (closed : Result (Option ℕ) Error) → Section {A = A} most (λ a b. ClosedAt s t a b closed) → Section {A = A} most (λ a b. RefusesClosed s t a b (as_refusal closed))
refuses most s t closed told = (told.0, told.1, told.2, told.3, refuses_at s t told.0 told.1 closed told.4)
