-- What is told of a loss, and what is given.
use Rattle.std.proofs.Common.{◌≡◌, inl, inr, ◌⊎◌, Bool, true, List, [], ◌∷◌, ◌++◌, sym, ap, ◌∙◌, subst, Option, Some, None, Result, Ok, Err, IsSome}
use Rattle.futures.specs.declared.task.Poll.{Poll}
use Rattle.futures.specs.declared.task.Poll.TheVariants.{Ready, Pending}
use Rattle.pg_wire.specs.declared.error.Error.{Error}
use Rattle.pg_wire.specs.declared.error.Error.TheVariants as errors
use Rattle.pg_wire.specs.declared.message.notification_response.Notification.{Notification}
use Rattle.pg_stream.specs.Links.{LinkSeen}
use Rattle.pg_listening.specs.Listening.{FailsOn, stream_in}
use Rattle.pg_listening.specs.Hearing.{GivesOldest, HeardOf, HearingOf, HearsOver, IsUntold, LosesHeld, LosesOne, LossBehind, TellsHeld, TellsLoss, gave_by, heard_of}
use Rattle.pg_listening.proofs.HearingLaws.{loses_on}
use Rattle.pg_conn.specs.Connections.{ConnOf}

module _ {C A : Type 0} (conn : C → ConnOf A) where
  -- what is told of it in the second half of a poll
  pub tells_held : (o : Option C) (before now links behind : List A) (was is : Bool) (answer : Poll (Result (Option Notification) Error)) → LosesHeld conn o before now → behind ≡ now ++ links → gave_by answer ≡ [] → LossBehind answer true is
      → TellsHeld conn o before behind was is answer
  tells_held o before now links behind was is (Ready (Ok None)) l e none told = (told, loses_on conn o before now links behind l e)
  tells_held o before now links behind was is (Ready (Ok (Some news))) l e none told = absurd cc
  tells_held o before now links behind was is (Ready (Err _)) l e none told = λ _. inr (loses_on conn o before now links behind l e)
  tells_held o before now links behind was is Pending l e none told = λ _. inr (loses_on conn o before now links behind l e)

module _ {C S A : Type 0} (seen : A → LinkSeen) (conn : C → ConnOf A) where
  -- the connection that is held has failed
  pub tells_failed : (a m b : HearingOf C S A) (cause : _) (answer : Poll (Result (Option Notification) Error)) → IsSome a.listening.conn → m.lost ≡ a.lost → m.is_lost ≡ a.is_lost → TellsHeld conn m.listening.conn m.lost b.lost m.is_lost b.is_lost answer
      → FailsOn (Ready (Err (errors.Io cause))) (stream_in conn seen a.listening.conn) (stream_in conn seen m.listening.conn) → TellsLoss seen conn a b answer
  tells_failed a m b cause answer held lost is t f = by answer t
    where
      one : (o n : Option C) → IsSome o → LosesHeld conn n m.lost b.lost → FailsOn (Ready (Err (errors.Io cause))) (stream_in conn seen o) (stream_in conn seen n) → LosesOne seen conn o a.lost b.lost
      one None n s l f = absurd cc
      one (Some c) None s l f = absurd l
      one (Some c) (Some d) s l f = record { link = (conn d).stream.link; more = l.0; lost = l.1 ∙ ap (λ (x : List A). x ++ (conn d).stream.link ∷ l.0) lost; failed = f }

      untold : (m.is_lost ≡ true) ⊎ LosesHeld conn m.listening.conn m.lost b.lost → IsUntold seen conn a b
      untold (inl e) = inl (sym is ∙ e)
      untold (inr l) = inr (one a.listening.conn m.listening.conn held l f)

      by : (answer : Poll (Result (Option Notification) Error)) → TellsHeld conn m.listening.conn m.lost b.lost m.is_lost b.is_lost answer → TellsLoss seen conn a b answer
      by (Ready (Ok None)) t = (t.0, untold (inr t.1))
      by (Ready (Ok (Some news))) t = λ e. untold (t e)
      by (Ready (Err e)) t = λ e. untold (t e)
      by Pending t = λ e. untold (t e)

-- whether one is untold stays
pub untold_by : {X : Type 0} (was is : Bool) → is ≡ was → is ≡ true → (was ≡ true) ⊎ X
untold_by was is s e = inl (sym s ∙ e)

module _ {C S A : Type 0} (seen : A → LinkSeen) (conn : C → ConnOf A) where
  -- none was told or lost
  pub untold_same : (a b : HearingOf C S A) → b.is_lost ≡ a.is_lost → b.is_lost ≡ true → IsUntold seen conn a b
  untold_same a b s e = inl (sym s ∙ e)

  -- one that an earlier poll has lost is told
  pub tells_later : (a b : HearingOf C S A) (answer : Poll (Result (Option Notification) Error)) → a.is_lost ≡ true → gave_by answer ≡ [] → LossBehind answer a.is_lost b.is_lost → TellsLoss seen conn a b answer
  tells_later a b (Ready (Ok None)) l none t = (t, inl l)
  tells_later a b (Ready (Ok (Some news))) l none t = absurd cc
  tells_later a b (Ready (Err e)) l none t = λ _. inl l
  tells_later a b Pending l none t = λ _. inl l

  pub tells_same : (a m b : HearingOf C S A) (answer : Poll (Result (Option Notification) Error)) → m ≡ a → TellsLoss seen conn m b answer → TellsLoss seen conn a b answer
  tells_same a m b answer e t = subst (λ (x : HearingOf C S A). TellsLoss seen conn x b answer) e t

  pub hears_same : (a m : HearingOf C S A) (b : HeardOf A) (g : List Notification) → m ≡ a → HearsOver seen (heard_of seen conn m) b g → HearsOver seen (heard_of seen conn a) b g
  hears_same a m b g e h = subst (λ (x : HearingOf C S A). HearsOver seen (heard_of seen conn x) b g) e h
  -- ---- what is buffered is given first

pub gives_first : (buffers rest : List Notification) (news : Notification) → news ∷ rest ≡ buffers → GivesOldest buffers (Ready (Ok (Some news)))
gives_first [] rest news e = tt
gives_first (oldest ∷ later) rest news e =
    let same : news ≡ oldest = cc in
    ap (λ (x : Notification). Ready (Ok (Some x))) same

pub gives_none : (buffers : List Notification) (answer : Poll (Result (Option Notification) Error)) → buffers ≡ [] → GivesOldest buffers answer
gives_none [] answer e = tt
gives_none (oldest ∷ later) answer e = absurd cc
