-- How a connection is opened.
use Rattle.std.proofs.Common.{◌≡◌, [], ◌∷◌, Ok, Err, inl, inr, subst, refl, sym, ap, ◌∙◌, false}
use Rattle.pg_wire.specs.declared.error.Error.{Error}
use Rattle.pg_stream.specs.Links.{LinkSeen}
use Rattle.pg_call.specs.declared.request.Request.{Request}
use Rattle.pg_conn.specs.Connecting.{ConnectingOf}
use Rattle.pg_conn.specs.Connections.{ConnOf, started_call}
use Rattle.pg_conn.specs.Dials.{DialSeen}
use Rattle.pg_conn.specs.Dialling.{Begun, FailsToBegin, Handing}
use Rattle.pg_migrating.specs.Sessions.{Connects, ConnectsAs, FailsBehind, GoesStart, Opening, WaitsBehind, goes_at, over_dial}
use Rattle.pg_migrating.specs.Starts.{at_stage}
use Rattle.pg_migrating.specs.declared.errand.Errand.{Errand}
use Rattle.pg_migrating.specs.declared.opening.Connected.{Connected}
use Rattle.pg_migrating.specs.declared.opening.Connected.TheVariants as connected
use Rattle.pg_migrating.specs.declared.opening.Stage.{Stage}
use Rattle.pg_migrating.specs.declared.opening.Stage.TheVariants as stages
use Rattle.pg_migrating.specs.declared.opening.Start.{Start}

-- one step behind another
pub then_connects : {D S A C : Type 0} (seen : A → LinkSeen) (o : Opening D S A) (held : C → ConnOf A) (d e f : D) (s t : S) (result : Connected S C) → WaitsBehind o d s e t → ConnectsAs seen o held e t f result → ConnectsAs seen o held d s f result
then_connects seen o held d e f s t (connected.Waits u) w k = (λ kind g. k.0 kind (w.0 kind g), λ asked first h. k.1 asked first (w.1 asked first h))
then_connects seen o held d e f s t (connected.Opens c) w k = (λ kind g. k.0 kind (w.0 kind g), λ asked first h. k.1 asked first (w.1 asked first h))
then_connects seen o held d e f s t (connected.Fails error) w k = λ asked first h. k asked first (w.1 asked first h)

module _ {D A : Type 0} (seen : A → LinkSeen) (hands : Handing D A) (counts : D → DialSeen) where
  -- its start-up was begun
  pub begun_waits : (d e : D) (errand : Errand) (a : ConnectingOf A) → Begun seen hands errand.options d e a → a.startup.is_finished ≡ false → WaitsBehind (over_dial seen hands counts) d (at_stage (stages.Asked (Ok errand))) e (at_stage (stages.Begun errand.request a))
  begun_waits d e errand a begun goes = (λ kind g. (goes, g), λ asked first h. (errand, sym h.0, refl, record { first = a; earlier = []; begun = subst (λ (x : D). Begun seen hands errand.options x e a) h.1 begun; waited = refl }))

  -- or not
  pub begun_fails : (d e : D) (errand : Errand) (error : Error) → FailsToBegin seen hands counts errand.options d e error → FailsBehind seen (over_dial seen hands counts) d (at_stage (stages.Asked (Ok errand))) e error
  begun_fails d e errand error fails = λ asked first h. inr (errand, sym h.0, inl (subst (λ (x : D). FailsToBegin seen hands counts errand.options x e error) h.1 fails))

  pub refused_fails : (d : D) (error : Error) → FailsBehind seen (over_dial seen hands counts) d (at_stage (stages.Asked (Err error))) d error
  refused_fails d error = λ asked first h. inl (sym h.0, h.1)

  -- and was polled
  pub polled_connects : (d : D) (r : Request) (a : ConnectingOf A) (result : Connected (Start A) (ConnOf A)) → Connects seen r a result → ConnectsAs seen (over_dial seen hands counts) (λ c. c) d (at_stage (stages.Begun r a)) d result
  polled_connects d r a (connected.Waits s) k = rw k.1 (λ kind g. (k.2, g.1), λ asked first h. (h.0, h.1, h.2, record { first = h.3.first; earlier = a ∷ h.3.earlier; begun = h.3.begun; waited = (k.3, h.3.waited) }))
  polled_connects d r a (connected.Opens c) k = (λ kind g. rw k.2 (g.1 k.1), λ asked first h. (h.0, h.1, (k.1, record { last = a; behind = k.0; starts = h.3; ends = k.3 }, k.2 ∙ ap (λ (x : Request). started_call x k.1) h.2)))
  polled_connects d r a (connected.Fails error) k = λ asked first h. inr (h.0, h.1, inr (record { last = a; behind = k.0; starts = h.3; ends = k.1 }))

  -- ---- by the stage that it stands at

  at : (P : Start A → Type 0) (s : Start A) (stage : Stage A) → s.stage ≡ stage → P (at_stage stage) → P s
  at P s stage is p = subst (λ (x : Stage A). P (at_stage x)) (sym is) p

  of_stage : (P : Stage A → Type 0) (stage other : Stage A) → stage ≡ other → P other → P stage
  of_stage P stage other is p = subst P (sym is) p

  pub asked_waits : (d e : D) (stage : Stage A) (errand : Errand) (a : ConnectingOf A) → stage ≡ stages.Asked (Ok errand) → Begun seen hands errand.options d e a × (a.startup.is_finished ≡ false) → WaitsBehind (over_dial seen hands counts) d (at_stage stage) e (at_stage (stages.Begun errand.request a))
  asked_waits d e stage errand a is begun = of_stage (λ (x : Stage A). WaitsBehind (over_dial seen hands counts) d (at_stage x) e (at_stage (stages.Begun errand.request a))) stage (stages.Asked (Ok errand)) is (begun_waits d e errand a begun.0 begun.1)

  pub asked_fails : (d e : D) (stage : Stage A) (errand : Errand) (error : Error) → stage ≡ stages.Asked (Ok errand) → FailsToBegin seen hands counts errand.options d e error → FailsBehind seen (over_dial seen hands counts) d (at_stage stage) e error
  asked_fails d e stage errand error is fails = of_stage (λ (x : Stage A). FailsBehind seen (over_dial seen hands counts) d (at_stage x) e error) stage (stages.Asked (Ok errand)) is (begun_fails d e errand error fails)

  pub unasked_fails : (d : D) (stage : Stage A) (error : Error) → stage ≡ stages.Asked (Err error) → FailsBehind seen (over_dial seen hands counts) d (at_stage stage) d error
  unasked_fails d stage error is = of_stage (λ (x : Stage A). FailsBehind seen (over_dial seen hands counts) d (at_stage x) d error) stage (stages.Asked (Err error)) is (refused_fails d error)

  pub begun_goes : (stage : Stage A) (r : Request) (a : ConnectingOf A) → stage ≡ stages.Begun r a → GoesStart (over_dial seen hands counts) (at_stage stage) → a.startup.is_finished ≡ false
  begun_goes stage r a is goes =
      let k : goes_at goes.0 (stages.Begun r a) = subst (λ (x : Stage A). goes_at goes.0 x) is goes.1 in
      k.0

  pub begun_stays : (d : D) (stage : Stage A) (r : Request) (a : ConnectingOf A) → stage ≡ stages.Begun r a → WaitsBehind (over_dial seen hands counts) d (at_stage stage) d (at_stage (stages.Begun r a))
  begun_stays d stage r a is = of_stage (λ (x : Stage A). WaitsBehind (over_dial seen hands counts) d (at_stage x) d (at_stage (stages.Begun r a))) stage (stages.Begun r a) is (λ kind g. g, λ asked first h. h)

  -- and so of the session

  pub opens_behind : (d e : D) (s : Start A) (stage : Stage A) (r : Request) (a : ConnectingOf A) (result : Connected (Start A) (ConnOf A)) → stage ≡ s.stage → WaitsBehind (over_dial seen hands counts) d (at_stage stage) e (at_stage (stages.Begun r a)) → Connects seen r a result → ConnectsAs seen (over_dial seen hands counts) (λ c. c) d s e result
  opens_behind d e s stage r a result is waits k = at (λ (x : Start A). ConnectsAs seen (over_dial seen hands counts) (λ c. c) d x e result) s stage (sym is) (then_connects seen (over_dial seen hands counts) (λ c. c) d e e (at_stage stage) (at_stage (stages.Begun r a)) result waits (polled_connects e r a result k))

  pub fails_behind : (d e : D) (s : Start A) (stage : Stage A) (error : Error) → stage ≡ s.stage → FailsBehind seen (over_dial seen hands counts) d (at_stage stage) e error → FailsBehind seen (over_dial seen hands counts) d s e error
  fails_behind d e s stage error is fails = at (λ (x : Start A). FailsBehind seen (over_dial seen hands counts) d x e error) s stage (sym is) fails
