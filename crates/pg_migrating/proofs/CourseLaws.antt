-- How a migration goes from one step to the next.
use Rattle.std.proofs.Common.{◌≡◌, ℕ, ◌<◌, ◌-◌, List, [], ◌∷◌, ◌++◌, Bool, true, false, Option, Some, None, Result, Ok, Err, refl, sym, ap, subst, arith}
use Rattle.std.specs.Prelude.{is_some}
use Rattle.std.proofs.lemmas.Option.{same_Some}
use Rattle.futures.specs.declared.task.Poll.TheVariants.{Ready, Pending}
use Rattle.pg_wire.specs.declared.error.Error.{Error}
use Rattle.pg_stream.specs.Links.{LinkSeen}
use Rattle.pg_call.specs.declared.kind.How.TheVariants as hows
use Rattle.pg_call.specs.declared.request.Request.{Request}
use Rattle.pg_conn.specs.Connections.{ConnOf}
use Rattle.pg_migrate.specs.Clocks.{ClockSeen}
use Rattle.pg_migrate.specs.Orders.{Statement}
use Rattle.pg_migrate.specs.declared.migration.Migration.{Migration}
use Rattle.pg_migrating.specs.declared.course.Course.{Course}
use Rattle.pg_migrating.specs.declared.course.Step.{Step}
use Rattle.pg_migrating.specs.declared.course.Step.TheVariants as steps
use Rattle.pg_migrating.specs.declared.course.Way.{Way}
use Rattle.pg_migrating.specs.declared.course.Way.TheVariants as ways
use Rattle.pg_call.specs.declared.answer.Turn.TheVariants as turns
use Rattle.pg_migrating.specs.Calls.{Called}
use Rattle.pg_migrating.specs.Requests.{Asks, IsRequestOf}
use Rattle.pg_migrating.specs.Asking.{Question, StandsAt, TellsEnd}
use Rattle.pg_migrating.specs.Courses.{WorkSeen, IsStepOf, before, before_by, ends_work, is_open_at, next_step, rank, statement_at, statement_by, statements_by}
use Rattle.pg_migrating.specs.Migrating.{AllRan, HasRun, IsNew, IsRead, IsTimed, Ran, Runs, StandsIn, StepGoes, StopsBy, Succeeds, Took, entered, Fails, told_as}
use Rattle.pg_migrating.proofs.AskingLaws.{asks_quietly}

-- ---- their order

step_next : (way : Way) (no_tx : Bool) (s t : Step) → IsStepOf way no_tx s → next_step way no_tx s ≡ Some t → IsStepOf way no_tx t
step_next way no_tx s t is e = by way no_tx s is e
  where
    turned : (way : Way) (no_tx : Bool) (u : Step) → IsStepOf way no_tx u → ◌≡◌ {A = Option Step} (Some u) (Some t) → IsStepOf way no_tx t
    turned way no_tx u k e = subst (λ (x : Step). IsStepOf way no_tx x) (same_Some u t e) k

    by : (way : Way) (no_tx : Bool) (s : Step) → IsStepOf way no_tx s → next_step way no_tx s ≡ Some t → IsStepOf way no_tx t
    by ways.Apply no_tx steps.Begin is e = turned ways.Apply no_tx steps.Script tt e
    by ways.Revert no_tx steps.Begin is e = turned ways.Revert no_tx steps.Script tt e
    by ways.Apply no_tx steps.Script is e = turned ways.Apply no_tx steps.Row tt e
    by ways.Revert no_tx steps.Script is e = turned ways.Revert no_tx steps.Row tt e
    by ways.Apply true steps.Row is e = turned ways.Apply true steps.Time tt e
    by ways.Revert true steps.Row is e = absurd cc
    by ways.Apply false steps.Row is e = turned ways.Apply false steps.Commit refl e
    by ways.Revert false steps.Row is e = turned ways.Revert false steps.Commit refl e
    by ways.Apply no_tx steps.Commit is e = turned ways.Apply no_tx steps.Time tt e
    by ways.Revert no_tx steps.Commit is e = absurd cc
    by way no_tx steps.Time is e = absurd cc

before_next : (way : Way) (no_tx : Bool) (table : List ℕ) (m : Migration) (nanos : ℕ) (s t : Step) → IsStepOf way no_tx s → next_step way no_tx s ≡ Some t → before_by way no_tx table m s ++ statement_by way table m nanos s ∷ [] ≡ before_by way no_tx table m t
before_next way no_tx table m nanos s t is e = by way no_tx s is e
  where
    turned : (way : Way) (no_tx : Bool) (xs : List Statement) (u : Step) → xs ≡ before_by way no_tx table m u → ◌≡◌ {A = Option Step} (Some u) (Some t) → xs ≡ before_by way no_tx table m t
    turned way no_tx xs u k e = subst (λ (x : Step). xs ≡ before_by way no_tx table m x) (same_Some u t e) k

    by : (way : Way) (no_tx : Bool) (s : Step) → IsStepOf way no_tx s → next_step way no_tx s ≡ Some t → before_by way no_tx table m s ++ statement_by way table m nanos s ∷ [] ≡ before_by way no_tx table m t
    by way true steps.Begin is e = absurd cc
    by way false steps.Begin is e = turned way false _ steps.Script refl e
    by way true steps.Script is e = turned way true _ steps.Row refl e
    by way false steps.Script is e = turned way false _ steps.Row refl e
    by ways.Apply true steps.Row is e = turned ways.Apply true _ steps.Time refl e
    by ways.Revert true steps.Row is e = absurd cc
    by way false steps.Row is e = turned way false _ steps.Commit refl e
    by way true steps.Commit is e = absurd cc
    by ways.Apply false steps.Commit is e = turned ways.Apply false _ steps.Time refl e
    by ways.Revert false steps.Commit is e = absurd cc
    by way no_tx steps.Time is e = absurd cc

before_last : (way : Way) (no_tx : Bool) (table : List ℕ) (m : Migration) (nanos : ℕ) (s : Step) → m.no_tx ≡ no_tx → IsStepOf way no_tx s → next_step way no_tx s ≡ None → before_by way no_tx table m s ++ statement_by way table m nanos s ∷ [] ≡ statements_by way table m nanos
before_last ways.Apply no_tx table m nanos steps.Begin k is e = absurd cc
before_last ways.Apply no_tx table m nanos steps.Script k is e = absurd cc
before_last ways.Apply true table m nanos steps.Row k is e = absurd cc
before_last ways.Apply false table m nanos steps.Row k is e = absurd cc
before_last ways.Apply no_tx table m nanos steps.Commit k is e = absurd cc
before_last ways.Apply no_tx table m nanos steps.Time k is e = rw k refl
before_last ways.Revert no_tx table m nanos steps.Begin k is e = absurd cc
before_last ways.Revert no_tx table m nanos steps.Script k is e = absurd cc
before_last ways.Revert true table m nanos steps.Row k is e = rw k refl
before_last ways.Revert false table m nanos steps.Row k is e = absurd cc
before_last ways.Revert true table m nanos steps.Commit k is e = absurd cc
before_last ways.Revert false table m nanos steps.Commit k is e = rw k refl
before_last ways.Revert no_tx table m nanos steps.Time k is e = absurd is

pub falls : (way : Way) (no_tx : Bool) (s t : Step) → next_step way no_tx s ≡ Some t → rank t < rank s
falls way no_tx s t e = by way no_tx s e
  where
    turned : (n : ℕ) (u : Step) → rank u < n → ◌≡◌ {A = Option Step} (Some u) (Some t) → rank t < n
    turned n u k e = subst (λ (x : Step). rank x < n) (same_Some u t e) k

    by : (way : Way) (no_tx : Bool) (s : Step) → next_step way no_tx s ≡ Some t → rank t < rank s
    by way no_tx steps.Begin e = turned 4 steps.Script (omega arith) e
    by way no_tx steps.Script e = turned 3 steps.Row (omega arith) e
    by ways.Apply true steps.Row e = turned 2 steps.Time (omega arith) e
    by ways.Revert true steps.Row e = absurd cc
    by way false steps.Row e = turned 2 steps.Commit (omega arith) e
    by ways.Apply no_tx steps.Commit e = turned 1 steps.Time (omega arith) e
    by ways.Revert no_tx steps.Commit e = absurd cc
    by way no_tx steps.Time e = absurd cc

-- ---- what has run

one_more_ran : {A : Type 0} (seen : A → LinkSeen) (xs : List Statement) (s : Statement) (a b c : ConnOf A) → AllRan seen xs a b → Ran seen s b c → AllRan seen (xs ++ s ∷ []) a c
one_more_ran seen [] s a b c all ran = (c, subst (λ (x : ConnOf _). Ran seen s x c) all ran, refl)
one_more_ran seen (x ∷ xs) s a b c (m, first, more) ran = (m, first, one_more_ran seen xs s m b c more ran)

-- ---- time

module _ {K : Type 0} (sees : K → ClockSeen) (tells : K → ℕ → K → Type 0) where
  timed_next : (way : Way) (no_tx : Bool) (s t : Step) (c d : Course) (zero a b : K) → IsStepOf way no_tx s → next_step way no_tx s ≡ Some t → IsTimed sees tells c s zero a → StopsBy sees tells (ends_work no_tx s) c d a b → IsTimed sees tells (entered no_tx t d) t zero b
  timed_next way no_tx s t c d zero a b is e timed stops = by way no_tx s is e timed stops
    where
      kept : (u : Step) → IsTimed sees tells (entered no_tx u d) u zero b → ◌≡◌ {A = Option Step} (Some u) (Some t) → IsTimed sees tells (entered no_tx t d) t zero b
      kept u k e = subst (λ (x : Step). IsTimed sees tells (entered no_tx x d) x zero b) (same_Some u t e) k

      read : IsRead sees tells zero c.start a → (d ≡ c) × (b ≡ a) → IsRead sees tells zero d.start b
      read timed (same, still) = rw (same, still) timed

      took : IsRead sees tells zero c.start a → (end : ℕ) × IsRead sees tells a end b × (d ≡ record c { nanos = end - c.start }) → Took sees tells zero b d.nanos
      took timed (end, ends, stopped) = record { start = c.start; end = end; middle = a; begins = timed; ends = ends; nanos_is = ap (λ (x : Course). x.nanos) stopped }

      by : (way : Way) (flag : Bool) (s : Step) → IsStepOf way flag s → next_step way flag s ≡ Some t → IsTimed sees tells c s zero a → StopsBy sees tells (ends_work flag s) c d a b → IsTimed sees tells (entered no_tx t d) t zero b
      by way flag steps.Begin is e timed stops = kept steps.Script (read timed stops) e
      by way flag steps.Script is e timed stops = kept steps.Row (read timed stops) e
      by ways.Apply true steps.Row is e timed stops = kept steps.Time (took timed stops) e
      by ways.Revert true steps.Row is e timed stops = absurd cc
      by way false steps.Row is e timed stops = kept steps.Commit (read timed stops) e
      by ways.Apply flag steps.Commit is e timed stops = kept steps.Time (took timed stops) e
      by ways.Revert flag steps.Commit is e timed stops = absurd cc
      by way flag steps.Time is e timed stops = absurd cc

  took_last : (way : Way) (no_tx : Bool) (s : Step) (c d : Course) (zero a b : K) → IsStepOf way no_tx s → next_step way no_tx s ≡ None → IsTimed sees tells c s zero a → StopsBy sees tells (ends_work no_tx s) c d a b → Took sees tells zero b d.nanos
  took_last way no_tx s c d zero a b is e timed stops = by way no_tx s is e timed stops
    where
      took : IsRead sees tells zero c.start a → (end : ℕ) × IsRead sees tells a end b × (d ≡ record c { nanos = end - c.start }) → Took sees tells zero b d.nanos
      took timed (end, ends, stopped) = record { start = c.start; end = end; middle = a; begins = timed; ends = ends; nanos_is = ap (λ (x : Course). x.nanos) stopped }

      by : (way : Way) (flag : Bool) (s : Step) → IsStepOf way flag s → next_step way flag s ≡ None → IsTimed sees tells c s zero a → StopsBy sees tells (ends_work flag s) c d a b → Took sees tells zero b d.nanos
      by way flag steps.Begin is e timed stops = absurd cc
      by way flag steps.Script is e timed stops = absurd cc
      by way true steps.Row is e timed stops = took timed stops
      by way false steps.Row is e timed stops = absurd cc
      by way flag steps.Commit is e timed stops = took timed stops
      by way flag steps.Time is e timed (same, still) = rw (same, still) timed

  -- the nanoseconds that a statement of the last step names are those that it took
  nanos_last : (way : Way) (no_tx : Bool) (table : List ℕ) (m : Migration) (s : Step) (c d : Course) (a b : K) → StopsBy sees tells (ends_work no_tx s) c d a b → statement_by way table m d.nanos s ≡ statement_by way table m c.nanos s
  nanos_last way no_tx table m steps.Begin c d a b stops = refl
  nanos_last way no_tx table m steps.Script c d a b stops = refl
  nanos_last way no_tx table m steps.Row c d a b stops = refl
  nanos_last way no_tx table m steps.Commit c d a b stops = refl
  nanos_last way no_tx table m steps.Time c d a b (same, still) = rw same refl

-- ---- behind a step that was answered Ok

module _ {A K : Type 0} (seen : A → LinkSeen) (sees : K → ClockSeen) (tells : K → ℕ → K → Type 0) where
  pub goes_next : (w : WorkSeen) (first conn : ConnOf A) (zero a b : K) (c d : Course) (t : Step) (asked : Result Request Error) → HasRun seen sees tells w first zero c conn a → next_step w.way w.migration.no_tx c.step ≡ Some t → StopsBy sees tells (ends_work w.migration.no_tx c.step) c d a b
      → IsRequestOf hows.Execute conn.rule.depth (statement_at w d.nanos t) asked → Runs seen sees tells w first zero (entered w.migration.no_tx t d) (Some asked) conn b
  goes_next w first conn zero a b c d t asked h e stops asks = record {
    asked = asked;
    from = conn;
    step = step_next w.way w.migration.no_tx c.step t h.step e;
    open_is = refl;
    earlier = subst (λ (xs : List Statement). AllRan seen xs first conn) (before_next w.way w.migration.no_tx w.table w.migration c.nanos c.step t h.step e) (one_more_ran seen (before w c.step) (statement_at w c.nanos c.step) first h.from conn h.earlier h.ran);
    asks = asks;
    stands = (refl, refl);
    timed = timed_next sees tells w.way w.migration.no_tx c.step t c d zero a b h.step e h.timed stops;
  }

  pub ends_last : (w : WorkSeen) (first conn : ConnOf A) (zero a b : K) (c d : Course) → HasRun seen sees tells w first zero c conn a → next_step w.way w.migration.no_tx c.step ≡ None → StopsBy sees tells (ends_work w.migration.no_tx c.step) c d a b
      → Succeeds seen sees tells w first zero (record d { is_open = false }) conn b d.nanos
  ends_last w first conn zero a b c d h e stops = record {
    all = subst (λ (xs : List Statement). AllRan seen xs first conn) (before_last w.way w.migration.no_tx w.table w.migration d.nanos c.step refl h.step e) (one_more_ran seen (before w c.step) (statement_at w d.nanos c.step) first h.from conn h.earlier (subst (λ (s : Statement). Ran seen s h.from conn) (sym (nanos_last sees tells w.way w.migration.no_tx w.table w.migration c.step c d a b stops)) h.ran));
    took = took_last sees tells w.way w.migration.no_tx c.step c d zero a b h.step e h.timed stops;
    closed = refl;
  }

  -- how the call of a step goes on, and how it ended
  pub step_waits : (w : WorkSeen) (first a b : ConnOf A) (zero k : K) (c : Course) (question : Question) → ((asked : Result Request Error) (from : ConnOf A) → StandsAt seen asked from question a → TellsEnd seen asked from b Pending) → Runs seen sees tells w first zero c question a k → Runs seen sees tells w first zero c None b k
  step_waits w first a b zero k c question t r = record { asked = r.asked; from = r.from; step = r.step; open_is = r.open_is; earlier = r.earlier; asks = r.asks; stands = t r.asked r.from r.stands; timed = r.timed }

  pub step_ran : (w : WorkSeen) (first a b : ConnOf A) (zero k : K) (c : Course) (question : Question) → ((asked : Result Request Error) (from : ConnOf A) → StandsAt seen asked from question a → TellsEnd seen asked from b (Ready (Ok tt))) → Runs seen sees tells w first zero c question a k → HasRun seen sees tells w first zero c b k
  step_ran w first a b zero k c question t r =
      let h = t r.asked r.from r.stands in
      let is = subst (λ (x : Result Request Error). IsRequestOf hows.Execute r.from.rule.depth (statement_at w c.nanos c.step) x) h.1.1 r.asks in
      record { from = r.from; step = r.step; earlier = r.earlier; ran = record { answer = h.0; called = subst (λ (x : Request). Called seen x r.from b (turns.Ok h.0)) is h.1.2 }; timed = r.timed }

  pub step_fails : (w : WorkSeen) (first a b : ConnOf A) (zero k : K) (c : Course) (question : Question) (e : Error) → ((asked : Result Request Error) (from : ConnOf A) → StandsAt seen asked from question a → TellsEnd seen asked from b (Ready (Err e))) → Runs seen sees tells w first zero c question a k → Fails seen w first c b (told_as c.step w.migration.version b e)
  step_fails w first a b zero k c question e t r = record { asked = r.asked; from = r.from; cause = e; step = r.step; open_is = r.open_is; earlier = r.earlier; asks = r.asks; ends = t r.asked r.from r.stands; told = refl }

  -- the first poll reads the clock
  pub begins : (w : WorkSeen) (first conn : ConnOf A) (zero a b : K) (c d : Course) (asked : Result Request Error) (time : ℕ) → IsRead sees tells a time b → d ≡ record c { start = time } → IsNew w first zero c asked conn a → Runs seen sees tells w first zero d (Some asked) conn b
  begins w first conn zero a b c d asked time read is new = subst (λ (x : Course). Runs seen sees tells w first zero x (Some asked) conn b) (sym is) (by w.migration.no_tx refl)
    where
      now : IsRead sees tells zero time b
      now = rw (← new.clock_is) read

      script_is : (way : Way) → IsStepOf way true steps.Script
      script_is ways.Apply = tt
      script_is ways.Revert = tt

      begin_is : (way : Way) → IsStepOf way false steps.Begin
      begin_is ways.Apply = refl
      begin_is ways.Revert = refl

      step_by : (no_tx : Bool) (s : Step) → w.migration.no_tx ≡ no_tx → c.step ≡ s → IsStepOf w.way no_tx s → IsStepOf w.way w.migration.no_tx c.step
      step_by no_tx s e k h = subst (λ (x : Bool). IsStepOf w.way x c.step) (sym e) (subst (λ (x : Step). IsStepOf w.way no_tx x) (sym k) h)

      open_by : (no_tx : Bool) (s : Step) → w.migration.no_tx ≡ no_tx → c.step ≡ s → c.is_open ≡ is_open_at no_tx s → c.is_open ≡ is_open_at w.migration.no_tx c.step
      open_by no_tx s e k h = subst (λ (x : Bool). c.is_open ≡ is_open_at x c.step) (sym e) (subst (λ (x : Step). c.is_open ≡ is_open_at no_tx x) (sym k) h)

      earlier_by : (no_tx : Bool) (s : Step) → w.migration.no_tx ≡ no_tx → c.step ≡ s → AllRan seen (before_by w.way no_tx w.table w.migration s) first first → AllRan seen (before w c.step) first first
      earlier_by no_tx s e k h = subst (λ (x : Bool). AllRan seen (before_by w.way x w.table w.migration c.step) first first) (sym e) (subst (λ (x : Step). AllRan seen (before_by w.way no_tx w.table w.migration x) first first) (sym k) h)

      timed_by : (s : Step) → c.step ≡ s → IsTimed sees tells (record c { start = time }) s zero b → IsTimed sees tells (record c { start = time }) c.step zero b
      timed_by s k h = subst (λ (x : Step). IsTimed sees tells (record c { start = time }) x zero b) (sym k) h

      by : (no_tx : Bool) → w.migration.no_tx ≡ no_tx → Runs seen sees tells w first zero (record c { start = time }) (Some asked) conn b
      by true e =
          let k : c.step ≡ steps.Script = rw e at new.step in
          record { asked = asked; from = first; step = step_by true steps.Script e k (script_is w.way); open_is = open_by true steps.Script e k new.open_is; earlier = earlier_by true steps.Script e k refl; asks = new.asks; stands = (refl, new.conn_is); timed = timed_by steps.Script k now }
      by false e =
          let k : c.step ≡ steps.Begin = rw e at new.step in
          record { asked = asked; from = first; step = step_by false steps.Begin e k (begin_is w.way); open_is = open_by false steps.Begin e k new.open_is; earlier = earlier_by false steps.Begin e k refl; asks = new.asks; stands = (refl, new.conn_is); timed = timed_by steps.Begin k now }

  pub clock_begins : (w : WorkSeen) (first conn : ConnOf A) (zero a b : K) (c : Course) (question : Question) (time : ℕ) → is_some question ≡ true → IsRead sees tells a time b → StandsIn seen sees tells w first zero c question conn a → Runs seen sees tells w first zero (record c { start = time }) question conn b
  clock_begins w first conn zero a b c None time i read s = absurd cc
  clock_begins w first conn zero a b c (Some asked) time i read s = begins w first conn zero a b c (record c { start = time }) asked time read refl s

  stops_step : (ends : Bool) (c d : Course) (a b : K) → StopsBy sees tells ends c d a b → d.step ≡ c.step
  stops_step false c d a b stops = ap (λ (x : Course). x.step) stops.0
  stops_step true c d a b stops = ap (λ (x : Course). x.step) stops.2

  next_by : (w v : WorkSeen) (c d : Course) (a b : K) (t : Option Step) → v ≡ w → StopsBy sees tells (ends_work w.migration.no_tx c.step) c d a b → t ≡ next_step v.way v.migration.no_tx d.step → next_step w.way w.migration.no_tx c.step ≡ t
  next_by w v c d a b t e stops next = sym (rw (e, stops_step (ends_work w.migration.no_tx c.step) c d a b stops) at next)

  -- the step behind the one that ran is asked
  pub next_runs : (w v : WorkSeen) (first conn m n : ConnOf A) (zero a b k : K) (c d e : Course) (t : Step) (question : Question) → v ≡ w → m ≡ conn → n ≡ m → k ≡ b → StopsBy sees tells (ends_work w.migration.no_tx c.step) c d a b → Some t ≡ next_step v.way v.migration.no_tx d.step
      → Asks hows.Execute m.rule.depth (statement_at v d.nanos t) question → e ≡ entered v.migration.no_tx t d → HasRun seen sees tells w first zero c conn a → Runs seen sees tells w first zero e question n k
  next_runs w v first conn m n zero a b k c d e t None ew em en ek stops next asks ee h = absurd asks
  next_runs w v first conn m n zero a b k c d e t (Some asked) ew em en ek stops next asks ee h =
      let request : IsRequestOf hows.Execute conn.rule.depth (statement_at w d.nanos t) asked = rw (ew, em) at asks in
      rw (ee, ew, en, em, ek) (goes_next w first conn zero a b c d t asked h (next_by w v c d a b (Some t) ew stops next) stops request)

  pub next_goes : (w v : WorkSeen) (m n : ConnOf A) (a b : K) (c d e : Course) (t : Step) (question : Question) → v ≡ w → StopsBy sees tells (ends_work w.migration.no_tx c.step) c d a b → Some t ≡ next_step v.way v.migration.no_tx d.step
      → Asks hows.Execute m.rule.depth (statement_at v d.nanos t) question → e ≡ entered v.migration.no_tx t d → StepGoes c.step e.step question n None
  next_goes w v m n a b c d e t None ew stops next asks ee = absurd asks
  next_goes w v m n a b c d e t (Some asked) ew stops next asks ee =
      (refl, asks_quietly m.rule.depth (statement_at v d.nanos t) asked n asks, subst (λ (x : Course). rank x.step < rank c.step) (sym ee) (falls w.way w.migration.no_tx c.step t (next_by w v c d a b (Some t) ew stops next)))

  -- none is left
  pub last_ends : (w v : WorkSeen) (first conn m : ConnOf A) (zero a b : K) (c d : Course) → v ≡ w → m ≡ conn → StopsBy sees tells (ends_work w.migration.no_tx c.step) c d a b → None ≡ next_step v.way v.migration.no_tx d.step → HasRun seen sees tells w first zero c conn a → Succeeds seen sees tells w first zero (record d { is_open = false }) m b d.nanos
  last_ends w v first conn m zero a b c d ew em stops next h = rw em (ends_last w first conn zero a b c d h (next_by w v c d a b None ew stops next) stops)
