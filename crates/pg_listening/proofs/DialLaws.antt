-- What a dial that fails comes to.
use Rattle.std.proofs.Common.{◌≡◌, ◌⊎◌, inl, inr, ℕ, ap, sym, subst, Option, Some, Result, Ok, Err, IfErr}
use Rattle.pg_wire.specs.declared.error.Error.{Error}
use Rattle.pg_stream.specs.Links.{LinkSeen}
use Rattle.pg_options.specs.Options.{ConnectOptions}
use Rattle.pg_startup.specs.Establishing.{RefusesStart}
use Rattle.pg_conn.specs.Dialling.{DrawsWords, dial_error}
use Rattle.pg_conn.specs.Dials.{DialSeen, failed_by}
use Rattle.pg_conn.specs.declared.dial.DialFailed.{DialFailed}
use Rattle.pg_conn.specs.declared.dial.DialFailed.TheVariants as failed
use Rattle.pg_listening.specs.Listening.{IsOpenPool}
use Rattle.pg_listening.specs.Failing.{BesideSeen, FailsDial, FillsNone, FindsNone}

dial_says : (f : DialFailed) → IsOpenPool (dial_error f)
dial_says failed.Fault = tt
dial_says failed.OutOfMemory = tt

pub dial_apart : (f : DialFailed) (e : Error) → e ≡ dial_error f → IsOpenPool e
dial_apart f e is = subst (λ (x : Error). IsOpenPool x) (sym is) (dial_says f)

counted : {X : Type 0} (a b : DialSeen) (f : DialFailed) (answer : Result X DialFailed) → answer ≡ Err f → DrawsWords a b answer → FailsDial a.faults b.faults (dial_error f)
counted {X} a b f answer is draws = by f (subst (λ (x : Result X DialFailed). DrawsWords a b x) is draws)
  where
    by : (f : DialFailed) → DrawsWords {X = X} a b (Err f) → FailsDial a.faults b.faults (dial_error f)
    by failed.Fault c = c.1
    by failed.OutOfMemory c = tt

pub words_fail : {X : Type 0} (a b : DialSeen) (f : DialFailed) (e : Error) (answer : Result X DialFailed) → answer ≡ Err f → e ≡ dial_error f → DrawsWords a b answer → FailsDial a.faults b.faults e
words_fail a b f e answer fails is draws = subst (λ (x : Error). FailsDial a.faults b.faults x) (sym is) (counted a b f answer fails draws)

pub link_fails : (a b : DialSeen) (f : DialFailed) (e : Error) → e ≡ dial_error f → b ≡ failed_by a f → FailsDial a.faults b.faults e
link_fails a b failed.Fault e is counts = subst (λ (x : Error). FailsDial a.faults b.faults x) (sym is) (ap (λ (x : DialSeen). x.faults) counts)
link_fails a b failed.OutOfMemory e is counts = subst (λ (x : Error). FailsDial a.faults b.faults x) (sym is) tt

-- behind a link that was dialled
pub fills_none : {A : Type 0} (seen : A → LinkSeen) (options : ConnectOptions) (before mid behind : ℕ) (e : Error) (link kept : A) (handed : Option A) → mid ≡ before → kept ≡ link → handed ≡ Some kept → FailsDial mid behind e ⊎ RefusesStart options (seen link).plan e → FillsNone seen options before behind e handed
fills_none seen options before mid behind e link kept handed same is handed_is (inl f) = inl (subst (λ (n : ℕ). FailsDial n behind e) same f)
fills_none {A} seen options before mid behind e link kept handed same is handed_is (inr r) = inr (kept, handed_is, subst (λ (x : A). RefusesStart options (seen x).plan e) (sym is) r)

-- the pool gave leave, and no start-up was begun
pub finds_none : {A X : Type 0} (seen : A → LinkSeen) (o : BesideSeen) (options : ConnectOptions) (result : Result X (Error × Option A)) → options ≡ o.options → IfErr result (λ e. IsOpenPool e.0) → IfErr result (λ e. FillsNone seen options o.before o.behind e.0 e.1) → IfErr result (λ e. FindsNone seen o e.0 e.1)
finds_none seen o options (Ok x) same apart none = tt
finds_none {A} seen o options (Err e) same apart none = inr (apart, subst (λ (x : ConnectOptions). FillsNone seen x o.before o.behind e.0 e.1) same none)
