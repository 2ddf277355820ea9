-- What follows from the laws of what holds a connection.
use Rattle.std.proofs.Common.{◌≡◌, ap, ◌∙◌, sym, subst, Option, None, Some, Bool}
use Rattle.futures.specs.declared.task.Poll.{Poll}
use Rattle.pg_stream.specs.Links.{LinkSeen}
use Rattle.pg_call.specs.declared.answer.Turn.{Turn}
use Rattle.pg_call.specs.declared.request.Request.{Request}
use Rattle.pg_wire.proofs.Tests.{same_found}
use Rattle.pg_conn.specs.Connections.{ConnOf, begun_by, left, left_by, rolled_back, seen_by}
use Rattle.pg_conn.specs.States.{KeepsCallingPlainly}
use Rattle.pg_conn.specs.Turns.{PollsCall}
use Rattle.pg_guards.specs.Holders.{KeepsBeginning, left_due}

module _ {C A : Type 0} (conn : C → ConnOf A) (with_conn : C → ConnOf A → C) (again : (x : C) (v w : ConnOf A) → with_conn (with_conn x v) w ≡ with_conn x w) where
  -- of a holder that changed in its connection alone, another connection makes the same
  given_another : (c d : C) (w : ConnOf A) → d ≡ with_conn c (conn d) → with_conn d w ≡ with_conn c w
  given_another c d w e = ap (λ x. with_conn x w) e ∙ again c (conn d) w

  -- so does a call that is given up
  pub left_behind : (c d result : C) (request : Option Request) → d ≡ with_conn c (conn d) → request ≡ None → result ≡ with_conn d (left_by request (conn d)) → result ≡ with_conn c (left (conn d))
  left_behind c d result request e n r = (rw n at r) ∙ given_another c d (left (conn d)) e

  -- and whatever else is made of it, by a function of connections that stays a variable here
  made_behind : (f : ConnOf A → ConnOf A) (c d held result : C) → d ≡ with_conn c (conn d) → held ≡ d → result ≡ with_conn held (f (conn held)) → result ≡ with_conn c (f (conn d))
  made_behind f c d held result e h r = (rw h at r) ∙ given_another c d (f (conn d)) e

  -- a guard over it that rolls back
  pub rolled_behind : (c d held result : C) → d ≡ with_conn c (conn d) → held ≡ d → result ≡ with_conn held (rolled_back (conn held)) → result ≡ with_conn c (rolled_back (conn d))
  rolled_behind c d held result e h r = made_behind rolled_back c d held result e h r

  -- and a rollback that is due or not
  pub due_behind : (c d result : C) (due before : Bool) → d ≡ with_conn c (conn d) → due ≡ before → result ≡ with_conn d (left_due due (conn d)) → result ≡ with_conn c (left_due before (conn d))
  due_behind c d result due before e b r = (rw b at r) ∙ given_another c d (left_due before (conn d)) e

-- ---- a poll

-- of a connection that is the one before, and whose end is the one behind
pub polled_within : {A : Type 0} (seen : A → LinkSeen) (request : Option Request) (begins ends before behind : ConnOf A) (turn : Poll Turn) → begins ≡ before → behind ≡ ends → PollsCall (seen_by seen (begun_by request begins)) (seen_by seen ends) turn → PollsCall (seen_by seen (begun_by request before)) (seen_by seen behind) turn
polled_within {A} seen request begins ends before behind turn b e polls =
    subst (λ (x : ConnOf A). PollsCall (seen_by seen (begun_by request x)) (seen_by seen behind) turn) b (subst (λ (x : ConnOf A). PollsCall (seen_by seen (begun_by request begins)) (seen_by seen x) turn) (sym e) polls)

-- ---- what a begin keeps

-- of the holder that is there
pub keeps_held : {C A : Type 0} (conn : C → ConnOf A) (request : Option Request) (held : Option C) (d : C) → held ≡ Some d → KeepsCallingPlainly request (conn d) → KeepsBeginning conn request held
keeps_held {C} conn request held d e k c f = subst (λ (x : C). KeepsCallingPlainly request (conn x)) (same_found held d c e f) k

-- and of none
pub keeps_none : {C A : Type 0} (conn : C → ConnOf A) (request : Option Request) (held : Option C) → held ≡ None → KeepsBeginning conn request held
keeps_none conn request held e c f = let none : None ≡ Some c = sym e ∙ f in absurd cc
