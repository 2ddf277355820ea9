-- What a poll answers behind what was done before it.
use Rattle.std.proofs.Common.{◌≡◌, inl, inr, ℕ, Bool, true, false, List, [], ◌∷◌, ◌∙◌, subst, Option, Some, None, Result, Ok, Err}
use Rattle.futures.specs.declared.task.Poll.{Poll}
use Rattle.futures.specs.declared.task.Poll.TheVariants.{Ready, Pending}
use Rattle.pg_wire.specs.declared.error.Error.{Error}
use Rattle.pg_wire.specs.declared.message.notification_response.Notification.{Notification}
use Rattle.pg_stream.specs.Links.{LinkSeen}
use Rattle.pg_listening.specs.Failing.{BesideSeen, CausedBy}
use Rattle.pg_listening.specs.Hearing.{HearingOf, OnReady}
use Rattle.pg_listening.specs.Waiting.{ListensAgain, OnNone, ReadiesBy, StartsFrom}
use Rattle.pg_listening.proofs.BufferingLaws.{on_ready}
use Rattle.pg_listening.proofs.WaitingLaws.{starts_then}
use Rattle.pg_conn.specs.Connections.{ConnOf}
use Rattle.pg_listen.specs.Handed.{FillingOf}

-- what holds where None tells a loss leads on
pub on_none : {X : Type 0} (answer : Poll (Result (Option X) Error)) (P Q : Type 0) → (P → Q) → OnNone answer P → OnNone answer Q
on_none (Ready (Ok None)) P Q f p = f p
on_none (Ready (Ok (Some x))) P Q f p = tt
on_none (Ready (Err e)) P Q f p = tt
on_none Pending P Q f p = tt

module _ {S A : Type 0} (seen : A → LinkSeen) (filling : S → FillingOf A) where
  -- a start-up goes on, or is new
  pub starts_behind : {X : Type 0} (a m b : Option S) (answer : Poll (Result X Error)) → StartsFrom seen filling a m → OnReady answer (StartsFrom seen filling m b) → OnReady answer (StartsFrom seen filling a b)
  starts_behind a m b answer first o = on_ready answer (StartsFrom seen filling m b) (StartsFrom seen filling a b) (λ s. starts_then seen filling a m b first s) o

  pub starts_same : {X : Type 0} (a m b : Option S) (answer : Poll (Result X Error)) → StartsFrom seen filling a m → OnReady answer (b ≡ m) → OnReady answer (StartsFrom seen filling a b)
  starts_same a m b answer first o = on_ready answer (b ≡ m) (StartsFrom seen filling a b) (λ e. starts_then seen filling a m b first (inl e)) o
  -- ---- it listens again

module _ {C S A : Type 0} (seen : A → LinkSeen) (conn : C → ConnOf A) (with_conn : C → ConnOf A → C) where
  -- the same connection is held
  pub readies_at : (a m b : HearingOf C S A) → b.listening.conn ≡ m.listening.conn → ReadiesBy seen conn with_conn a m → ReadiesBy seen conn with_conn a b
  readies_at a m b e (inl r) = inl r
  readies_at a m b e (inr r) = inr (record { before = r.before; asked = r.asked; left = r.left; channels_are = r.channels_are; asks = r.asks; ends = rw e r.ends })

  -- behind what keeps the channels
  pub readies_from : {X : Type 0} (a m b : HearingOf C S A) (answer : Poll (Result X Error)) → (m.is_ready ≡ true → m ≡ a) → m.listening.channels ≡ a.listening.channels → OnReady answer (ReadiesBy seen conn with_conn m b) → OnReady answer (ReadiesBy seen conn with_conn a b)
  readies_from a m b answer stays same o = on_ready answer (ReadiesBy seen conn with_conn m b) (ReadiesBy seen conn with_conn a b) by o
    where
      by : ReadiesBy seen conn with_conn m b → ReadiesBy seen conn with_conn a b
      by (inl r) = inl (subst (λ (h : HearingOf C S A). h.is_ready ≡ true) (stays r) r)
      by (inr l) = inr (subst (λ (c : List (List ℕ)). ListensAgain seen conn with_conn c b) same l)

  pub again_from : {X : Type 0} (a m b : HearingOf C S A) (answer : Poll (Result (Option X) Error)) → m.is_eager ≡ a.is_eager → m.listening.channels ≡ a.listening.channels → OnNone answer (m.is_eager ≡ true → ListensAgain seen conn with_conn m.listening.channels b)
      → OnNone answer (a.is_eager ≡ true → ListensAgain seen conn with_conn a.listening.channels b)
  again_from a m b answer eager same o = on_none answer (m.is_eager ≡ true → ListensAgain seen conn with_conn m.listening.channels b) (a.is_eager ≡ true → ListensAgain seen conn with_conn a.listening.channels b) by o
    where
      by : (m.is_eager ≡ true → ListensAgain seen conn with_conn m.listening.channels b) → a.is_eager ≡ true → ListensAgain seen conn with_conn a.listening.channels b
      by f e = subst (λ (c : List (List ℕ)). ListensAgain seen conn with_conn c b) same (f (eager ∙ e))

  -- behind a loss
  pub lost_again : {X : Type 0} (a m b : HearingOf C S A) (answer : Poll (Result (Option X) Error)) → m.is_ready ≡ false → m.is_eager ≡ a.is_eager → m.listening.channels ≡ a.listening.channels → OnNone answer (m.is_eager ≡ true → ReadiesBy seen conn with_conn m b)
      → OnNone answer (a.is_eager ≡ true → ListensAgain seen conn with_conn a.listening.channels b)
  lost_again a m b answer fresh eager same o = on_none answer (m.is_eager ≡ true → ReadiesBy seen conn with_conn m b) (a.is_eager ≡ true → ListensAgain seen conn with_conn a.listening.channels b) by o
    where
      again : ReadiesBy seen conn with_conn m b → ListensAgain seen conn with_conn a.listening.channels b
      again (inl r) = absurd cc
      again (inr l) = subst (λ (c : List (List ℕ)). ListensAgain seen conn with_conn c b) same l

      by : (m.is_eager ≡ true → ReadiesBy seen conn with_conn m b) → a.is_eager ≡ true → ListensAgain seen conn with_conn a.listening.channels b
      by f e = again (f (eager ∙ e))
      -- ---- what cannot be

pub both : {P : Type 0} (b : Bool) → b ≡ false → b ≡ true → P
both b down up = absurd cc

pub none_first : {P : Type 0} (news : Notification) (rest buffers : List Notification) → news ∷ rest ≡ buffers → buffers ≡ [] → P
none_first news rest buffers some none = absurd cc

-- ---- nothing was done before it

module _ {C S A : Type 0} (seen : A → LinkSeen) (conn : C → ConnOf A) (with_conn : C → ConnOf A → C) (filling : S → FillingOf A) where
  pub caused_same : {X : Type 0} (o : BesideSeen) (left now : ℕ) (a m b : HearingOf C S A) (answer : Poll (Result X Error)) → m ≡ a → CausedBy seen conn with_conn filling o left now m b answer → CausedBy seen conn with_conn filling o left now a b answer
  caused_same o left now a m b answer e f = subst (λ (h : HearingOf C S A). CausedBy seen conn with_conn filling o left now h b answer) e f
