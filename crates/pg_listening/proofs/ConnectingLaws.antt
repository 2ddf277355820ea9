-- What a listener that connects answers.
use Rattle.std.proofs.Common.{◌≡◌, ℕ, Option, Some, None, IsSome, sym, subst, Result, Err}
use Rattle.futures.specs.declared.task.Poll.{Poll}
use Rattle.futures.specs.declared.task.Poll.TheVariants.{Ready, Pending}
use Rattle.pg_wire.specs.declared.error.Error.{Error}
use Rattle.pg_stream.specs.Links.{LinkSeen}
use Rattle.pg_listen.specs.Handed.{FillingOf}
use Rattle.pg_listening.specs.Failing.{Fails}
use Rattle.pg_listening.specs.Sources.{SourceSeen}
use Rattle.pg_listening.specs.Leaving.{NotesClosed}
use Rattle.pg_listening.specs.Waiting.{WaitsBy}
use Rattle.pg_listening.specs.Listeners.{Connects, HandsOn, IsHeardOn, ListenerOf, beside_by}
use Rattle.pg_conn.specs.Connections.{ConnOf}

module _ {C S A : Type 0} (seen : A → LinkSeen) (conn : C → ConnOf A) (with_conn : C → ConnOf A → C) (filling : S → FillingOf A) where
  pub connects_later : {B : Type 0} (of : B → SourceSeen) (now : ℕ) (before : Option (ListenerOf B C S A)) (a b : ListenerOf B C S A) → before ≡ Some a → IsHeardOn seen conn a b → WaitsBy seen conn filling 256 now a.hearing b.hearing
      → Connects seen conn with_conn filling of before (Some b) Pending
  connects_later {B} of now before a b is heard waits = subst (λ (o : Option (ListenerOf B C S A)). Connects seen conn with_conn filling of o (Some b) Pending) (sym is) (heard, (now, waits))

  pub connects_none : {B : Type 0} (of : B → SourceSeen) (now : ℕ) (before : Option (ListenerOf B C S A)) (a b : ListenerOf B C S A) (e : Error) → before ≡ Some a → IsHeardOn seen conn a b → Fails seen conn with_conn filling (beside_by of a b) 256 now a.hearing b.hearing e
      → NotesClosed A (of a.source).most (of b.source).seat e → Connects seen conn with_conn filling of before (Some b) (Ready (Err e))
  connects_none {B} of now before a b e is heard fails notes = subst (λ (o : Option (ListenerOf B C S A)). Connects seen conn with_conn filling of o (Some b) (Ready (Err e))) (sym is) (heard, (now, fails), notes)

  pub connects_last : {B : Type 0} (of : B → SourceSeen) (before after : Option (ListenerOf B C S A)) (a b : ListenerOf B C S A) (answer : Poll (Result (ListenerOf B C S A) Error)) → before ≡ Some a → IsHeardOn seen conn a b → IsSome b.hearing.listening.conn
      → HandsOn (Some b) after answer → Connects seen conn with_conn filling of before after answer
  connects_last {B} of before after a b answer is heard held (ends, gone) =
      subst (λ (o : Option (ListenerOf B C S A)). Connects seen conn with_conn filling of o after answer) (sym is)
      (subst (λ (o : Option (ListenerOf B C S A)). Connects seen conn with_conn filling of (Some a) o answer) (sym gone)
      (subst (λ (x : Poll (Result (ListenerOf B C S A) Error)). Connects seen conn with_conn filling of (Some a) None x) (sym ends) (heard, held)))
