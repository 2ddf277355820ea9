-- What a listener that is released answers.
use Rattle.std.proofs.Common.{◌≡◌, ℕ, true, [], Option, Some, None, is_some, sym, subst, Ok, Err}
use Rattle.futures.specs.declared.task.Poll.TheVariants.{Ready, Pending}
use Rattle.pg_wire.specs.declared.error.Error.{Error}
use Rattle.pg_stream.specs.Links.{LinkSeen}
use Rattle.pg_listen.specs.Handed.{FillingOf, HeldOf, ReleasedOf}
use Rattle.pg_listening.specs.Failing.{Fails}
use Rattle.pg_listening.specs.Sources.{SourceSeen}
use Rattle.pg_listening.specs.Hearing.{HearingOf, HearsBy, is_changing}
use Rattle.pg_listening.specs.Leaving.{OnReleased}
use Rattle.pg_listening.specs.Waiting.{WaitsBy}
use Rattle.pg_listening.specs.Listeners.{ListenerOf, Releases, beside_by}
use Rattle.pg_conn.specs.Connections.{ConnOf}

pub some_same : {X : Type 0} (a b : X) → Some a ≡ Some b → a ≡ b
some_same a b e = cc

module _ {C S A : Type 0} (seen : A → LinkSeen) (conn : C → ConnOf A) (with_conn : C → ConnOf A → C) (handed : C → HeldOf A) (filling : S → FillingOf A) where
  pub releases_last : {B : Type 0} (of : B → SourceSeen) (before behind : Option (ListenerOf B C S A)) (a last : ListenerOf B C S A) (x : Option (ReleasedOf A)) → before ≡ Some a → behind ≡ None
      → HearsBy seen conn a.hearing last.hearing [] → is_some x ≡ is_some last.hearing.listening.conn → OnReleased handed conn with_conn (of last.source).most last.hearing.listening.conn x → Releases seen conn with_conn handed filling of before behind (Ready (Ok x))
  releases_last {B} of before behind a last x b n h s r =
      subst (λ (o : Option (ListenerOf B C S A)). Releases seen conn with_conn handed filling of o behind (Ready (Ok x))) (sym b) (subst (λ (o : Option (ListenerOf B C S A)). Releases seen conn with_conn handed filling of (Some a) o (Ready (Ok x))) (sym n) (last, h, s, r))

  pub releases_later : {B : Type 0} (of : B → SourceSeen) (now : ℕ) (before : Option (ListenerOf B C S A)) (a b : ListenerOf B C S A) → before ≡ Some a → HearsBy seen conn a.hearing b.hearing [] → is_changing b.hearing ≡ true
      → (begun : HearingOf C S A) × HearsBy seen conn a.hearing begun [] × WaitsBy seen conn filling 256 now begun b.hearing → Releases seen conn with_conn handed filling of before (Some b) Pending
  releases_later {B} of now before a b is h changing (begun, hears, waits) =
      subst (λ (o : Option (ListenerOf B C S A)). Releases seen conn with_conn handed filling of o (Some b) Pending) (sym is) (h, changing, (now, begun, hears, waits))

  pub releases_none : {B : Type 0} (of : B → SourceSeen) (now : ℕ) (before : Option (ListenerOf B C S A)) (a b : ListenerOf B C S A) (e : Error) → before ≡ Some a → HearsBy seen conn a.hearing b.hearing []
      → (begun : HearingOf C S A) × HearsBy seen conn a.hearing begun [] × Fails seen conn with_conn filling (beside_by of a b) 256 now begun b.hearing e → Releases seen conn with_conn handed filling of before (Some b) (Ready (Err e))
  releases_none {B} of now before a b e is h (begun, hears, fails) =
      subst (λ (o : Option (ListenerOf B C S A)). Releases seen conn with_conn handed filling of o (Some b) (Ready (Err e))) (sym is) (h, (now, begun, hears, fails))
