-- What a change that was begun comes to.
use Rattle.std.proofs.Common.{◌≡◌, inl, ℕ, [], ap, sym, subst, ◌∙◌, Option, Result, Ok, Err}
use Rattle.futures.specs.declared.task.Poll.{Poll}
use Rattle.futures.specs.declared.task.Poll.TheVariants.{Ready, Pending}
use Rattle.pg_wire.specs.declared.error.Error.{Error}
use Rattle.pg_wire.specs.declared.error.Error.TheVariants as errors
use Rattle.pg_stream.specs.Links.{LinkSeen}
use Rattle.pg_listening.specs.declared.channel_change.ChannelChange.{ChannelChange}
use Rattle.pg_pool.specs.Seats.{SeatSeen}
use Rattle.pg_listen.specs.Handed.{FillingOf}
use Rattle.pg_listening.specs.Failing.{BesideSeen, CausedBy}
use Rattle.pg_listening.specs.Sources.{SourceSeen}
use Rattle.pg_listening.specs.Hearing.{Changes, HearingOf, HearsBy, channels_at_ok}
use Rattle.pg_listening.specs.Leaving.{NotesClosed}
use Rattle.pg_listening.proofs.FailingLaws.{memory_fails}
use Rattle.pg_listening.specs.Listeners.{CausedBehind, ListenerOf, MakesChange, beside_by, stored_by, wanted_by}
use Rattle.pg_conn.specs.Connections.{ConnOf}

module _ {C S A : Type 0} (seen : A → LinkSeen) (conn : C → ConnOf A) (with_conn : C → ConnOf A → C) (filling : S → FillingOf A) where
  -- behind the begin of a change, whose want of memory changes nothing
  pub unbegun : (X : Type 0) (o : BesideSeen) (left now : ℕ) (a b : HearingOf C S A) (e : Error) → HearsBy seen conn a a [] → e ≡ errors.OutOfMemory → CausedBehind {X = X} seen conn with_conn filling o left now a b (Ready (Err e))
  unbegun X o left now a b e none wanting = (a, none, inl (memory_fails seen conn with_conn filling left now a b e wanting))

  pub begun_causes : {B X : Type 0} (of : B → SourceSeen) (left now : ℕ) (a m b : ListenerOf B C S A) (answer : Poll (Result X Error)) → m ≡ record a { hearing = m.hearing } → HearsBy seen conn a.hearing m.hearing []
      → CausedBy seen conn with_conn filling (beside_by of m b) left now m.hearing b.hearing answer → CausedBehind seen conn with_conn filling (beside_by of a b) left now a.hearing b.hearing answer
  begun_causes {B} of left now a m b answer same hears causes =
      (m.hearing, hears, subst (λ (x : BesideSeen). CausedBy seen conn with_conn filling x left now m.hearing b.hearing answer) (ap (λ (l : ListenerOf B C S A). beside_by of l b) same) causes)

-- a change that was begun makes the channels that it was to make
pub changes_begun : {C S A : Type 0} (change : Option ChannelChange) (a m b : HearingOf C S A) (answer : Poll (Result (Unit {0}) Error)) → m.listening.channels ≡ stored_by change a → channels_at_ok m ≡ wanted_by change a → Changes m.listening.channels (channels_at_ok m) b answer → MakesChange change a b answer
changes_begun change a m b Pending stored wanted (c, k, i) = (c ∙ stored, k ∙ wanted, i)
changes_begun change a m b (Ready (Ok u)) stored wanted c = c ∙ wanted
changes_begun change a m b (Ready (Err e)) stored wanted c = inl (c ∙ stored)

pub notes_wanting : (A : Type 0) (most : ℕ) (s : SeatSeen) (e : Error) → e ≡ errors.OutOfMemory → NotesClosed A most s e
notes_wanting A most s e is = subst (λ (x : Error). NotesClosed A most s x) (sym is) tt
