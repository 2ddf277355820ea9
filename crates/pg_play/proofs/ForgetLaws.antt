-- A call that closes the statements that are kept begins with the names of types forgotten, and is otherwise as any other.
use Rattle.std.proofs.Common.{◌≡◌, ℕ, ◌<◌, ◌≤◌, ◌^◌, Bool, true, false, not, is_some, nat_eq, ◌&&◌, ◌||◌, ◌==◌, cond, inl, inr, List, [], ◌∷◌, ◌++◌, length, map, reverse, refl, sym, ap, ap₂, ◌∙◌, subst, arith, Option, Some, None, codes, decimal, zero, suc, ne_eqb}
use Rattle.std.specs.List.{AllByRecursion}
use Rattle.std.proofs.lemmas.List.{reverse-append}
use Rattle.pg_wire.specs.Bytes.{HasNoNul}
use Rattle.pg_wire.specs.Frontend.{FrontendMessage, CloseStatement, HasFrontendFrame, Sync}
use Rattle.pg_wire.specs.declared.error.ServerFault.{ServerFault}
use Rattle.pg_wire.proofs.Each.{each_end, each_join}
use Rattle.pg_wire.proofs.NameLaws.{numbered_nul_free}
use Rattle.pg_call.specs.declared.request.Request.{Request}
use Rattle.pg_call.specs.declared.request.Request.TheVariants as requests
use Rattle.pg_call.specs.Requests.{CanBeSaid, name_of}
use Rattle.pg_rule.specs.declared.cache.Entry.{Entry}
use Rattle.pg_learning.specs.declared.learnt.Learnt.{Learnt}
use Rattle.pg_learning.specs.Learning.{unnamed_types}
use Rattle.pg_conn.specs.Connections.{forgets}
use Rattle.pg_conn.specs.Looking.{named_in}
use Rattle.pg_conn.specs.Statements.{asked_by}
use Rattle.pg_report.specs.declared.outcome.Outcome.{Outcome}
use Rattle.pg_script.specs.declared.step.Call.{Call}
use Rattle.pg_script.specs.declared.step.Call.TheVariants as calls
use Rattle.pg_script.specs.declared.step.Step.{Step}
use Rattle.pg_play.specs.Calls.{IsUnpolled}
use Rattle.pg_play.specs.Causes.{EndsDuly, OpensSavepoint}
use Rattle.pg_play.specs.Kept.{Keeps}
use Rattle.pg_play.specs.Places.{Place}
use Rattle.pg_play.specs.Plays.{BeginsAs, FirstIs, Plays_exchanges, Plays_step, begun_at, clears, forgets_at, known_at, stopped_at}
use Rattle.pg_play.specs.Shown.{acts_at_once, asked_of, begins_with, ending, exchange_for, first_call, has_query, parting_of, request_of}
use Rattle.pg_play.proofs.BeforeLaws.{dropped_before}

-- ---- which steps forget

none_of : (b c : Bool) → c ≡ false → (b && c) ≡ false
none_of true c e = e
none_of false c e = refl

not_first : (b c : Bool) → b ≡ true → (not (b || c)) ≡ false
not_first true c e = refl
not_first false c e = absurd cc

not_second : (b c : Bool) → c ≡ true → (not (b || c)) ≡ false
not_second true c e = refl
not_second false true e = refl
not_second false false e = absurd cc

pub knows_other : (at : Place) (step : Step) → clears step.call ≡ false → known_at at step ≡ at.learnt
knows_other at step e = rw e refl

unpolled_not : (step : Step) → IsUnpolled step → (not (nat_eq step.polls 0 || nat_eq step.most 0)) ≡ false
unpolled_not step (inl z) = not_first (nat_eq step.polls 0) (nat_eq step.most 0) (ap (λ (n : ℕ). nat_eq n 0) z)
unpolled_not step (inr z) = not_second (nat_eq step.polls 0) (nat_eq step.most 0) (ap (λ (n : ℕ). nat_eq n 0) z)

pub knows_unpolled : (at : Place) (step : Step) → IsUnpolled step → known_at at step ≡ at.learnt
knows_unpolled at step u =
    let polled = unpolled_not step u in
    let none : forgets_at at step ≡ false = none_of (clears step.call) _ (ap (λ (b : Bool). b && not (is_some at.broken)) polled) in
    ap (λ (b : Bool). cond b (unnamed_types at.learnt) at.learnt) none

begins_keep : (call : Call) → begins_with call ≡ true → clears call ≡ false
begins_keep calls.Clear e = absurd cc
begins_keep _ e = refl

queries_keep : (call : Call) → has_query call ≡ true → clears call ≡ false
queries_keep calls.Clear e = absurd cc
queries_keep _ e = refl

acts_keep : (call : Call) → acts_at_once call ≡ true → clears call ≡ false
acts_keep calls.Clear e = absurd cc
acts_keep _ e = refl

pub knows_savepoint : (at : Place) (step : Step) → begins_with step.call ≡ true → known_at at step ≡ at.learnt
knows_savepoint at step e = knows_other at step (begins_keep step.call e)

pub knows_query : (at : Place) (step : Step) → has_query step.call ≡ true → known_at at step ≡ at.learnt
knows_query at step e = knows_other at step (queries_keep step.call e)

pub knows_act : (at : Place) (step : Step) → acts_at_once step.call ≡ true → known_at at step ≡ at.learnt
knows_act at step e = knows_other at step (acts_keep step.call e)

-- what is asked for a step forgets where the step does
ends_keep : (make : ℕ → Request) → ((left : ℕ) → forgets (make left) ≡ false) → (d : ℕ) → forgets (ending make d) ≡ false
ends_keep make k zero = refl
ends_keep make k (suc left) = k left

asked_forgets : (d : ℕ) (call : Call) → forgets (asked_of d call) ≡ clears call
asked_forgets d calls.Clear = refl
asked_forgets d calls.Commit = ends_keep (λ left. requests.Commit left) (λ left. refl) d
asked_forgets d calls.Rollback = ends_keep (λ left. requests.Rollback left) (λ left. refl) d
asked_forgets d _ = refl

both_not : (b c : Bool) → b ≡ false → c ≡ false → (not (b || c)) ≡ true
both_not true c e f = absurd cc
both_not false true e f = absurd cc
both_not false false e f = refl

pub forgets_so : (at : Place) (step : Step) (broken : Option ServerFault) → (IsUnpolled step → ⊥) → broken ≡ at.broken → (forgets (asked_of at.rule.depth step.call) && not (is_some broken)) ≡ forgets_at at step
forgets_so at step broken n e =
    let polled = both_not (nat_eq step.polls 0) (nat_eq step.most 0) (ne_eqb step.polls 0 (λ z. n (inl z))) (ne_eqb step.most 0 (λ z. n (inr z))) in
    ap₂ (λ (b : Bool) (o : Option ServerFault). b && not (is_some o)) (asked_forgets at.rule.depth step.call) e
    ∙ ap (λ (b : Bool). clears step.call && (b && not (is_some at.broken))) (sym polled)

pub clears_so : (at : Place) (step : Step) → forgets_at at step ≡ true → (clears step.call ≡ true) × (at.broken ≡ None)
clears_so at step e = by (clears step.call) (not (nat_eq step.polls 0 || nat_eq step.most 0)) at.broken e
  where
    by : (b c : Bool) (o : Option ServerFault) → (b && (c && not (is_some o))) ≡ true → (b ≡ true) × (o ≡ None)
    by true true None e = (refl, refl)
    by true true (Some fault) e = absurd cc
    by true false o e = absurd cc
    by false c o e = absurd cc

-- ---- what it asks can be said

name_said : (n : ℕ) → n < 2 ^ 32 → HasNoNul (name_of n)
name_said n lt = by (n == 0)
  where
    by : (b : Bool) → HasNoNul (cond b [] (codes "sqlx_s_" ++ decimal n))
    by true = refl
    by false = numbered_nul_free (codes "sqlx_s_") n refl lt

closes_said : (next : ℕ) (es : List Entry) → next ≤ 2 ^ 32 → AllByRecursion (λ e. (0 < e.statement) × (e.statement < next)) es → AllByRecursion HasFrontendFrame (map CloseStatement (map name_of (map (λ e. e.statement) es)))
closes_said next [] le each = tt
closes_said next (e ∷ es) le (one, each) = (name_said e.statement (omega (arith, le, one.1)), closes_said next es le each)

turned : (P : Entry → Type 0) (es : List Entry) → AllByRecursion P es → AllByRecursion P (reverse es)
turned P [] each = tt
turned P (e ∷ es) (one, each) = subst (AllByRecursion P) (sym (reverse-append (e ∷ []) es)) (each_end P (reverse es) e (turned P es each) one)

closing_said : (statements : List ℕ) → AllByRecursion HasFrontendFrame (map CloseStatement (map name_of statements)) → CanBeSaid (requests.Clear statements)
closing_said statements h =
    let closes : List FrontendMessage = map CloseStatement (map name_of statements) in
    (each_join HasFrontendFrame ((closes ++ Sync ∷ []) ++ []) [] (each_join HasFrontendFrame (closes ++ Sync ∷ []) [] (each_end HasFrontendFrame closes Sync h tt) tt) tt, tt)

pub clears_can : (at : Place) (d : ℕ) (call : Call) → Keeps at → clears call ≡ true → CanBeSaid (request_of d (first_call at.rule call))
clears_can at d call k e = by call e
  where
    said : (b : Bool) → CanBeSaid (request_of d (exchange_for (asked_by at.rule (cond b requests.Flush (requests.Clear [])))))
    said true = (tt, tt)
    said false = closing_said (map (λ e. e.statement) (reverse at.rule.cache.entries)) (closes_said at.rule.next (reverse at.rule.cache.entries) k.orderly.ends (turned _ at.rule.cache.entries k.orderly.numbered))

    by : (call : Call) → clears call ≡ true → CanBeSaid (request_of d (first_call at.rule call))
    by calls.Clear e = said (nat_eq (length at.rule.cache.entries) 0)
    by _ e = absurd cc

-- ---- the step, as it stands where nothing is forgotten yet

not_flush : (call : Call) → clears call ≡ true → call ≡ calls.Flush → ⊥
not_flush call e c = let x = sym e ∙ ap clears c in absurd cc

duly_before : (at : Place) (learnt : Learnt) (step : Step) (r : Request) (out : Outcome) (stop : Place) → (IsUnpolled step → ⊥) → (OpensSavepoint at step → ⊥) → at.broken ≡ None → CanBeSaid r → clears step.call ≡ true → EndsDuly (begun_at at learnt) step r out stop → EndsDuly at step r out stop
duly_before at learnt step r out stop n opens whole can clear d = record {
  savepoint = λ m o. absurd (opens o);
  unpolled = λ u. absurd (n u);
  kept = λ fault w m o. let x = sym whole ∙ w in absurd cc;
  refused = λ w m o u. absurd (u can);
  flushed = λ w m c. absurd (not_flush step.call clear c);
  few = d.few;
  most = d.most;
}

pub begins_forgotten : (at : Place) (step : Step) (out : Outcome) (next : Place) → forgets_at at step ≡ true → Keeps at → (IsUnpolled step → ⊥) → (OpensSavepoint at step → ⊥) → acts_at_once step.call ≡ false → Plays_step (begun_at at (unnamed_types at.learnt)) step out next → Plays_step at step out next
begins_forgotten at step out next f k n opens later s = record {
  exchanges = s.exchanges;
  outs = s.outs;
  learnt = s.learnt;
  run = s.run;
  first = first s.exchanges s.first;
  limits = s.limits;
  hands = s.hands;
  tells = s.tells;
  stop = s.stop;
  stops = stops s.exchanges s.outs s.run s.first s.stops;
  calls = s.calls;
  dropped = λ z. dropped_before (parting_of step.call) at begun step out s.stop (s.dropped z);
  at_once = λ now. let x = sym later ∙ now in absurd cc;
  duly = λ z. let so = clears_so at step f in duly_before at begun step _ out s.stop n opens so.1 (clears_can at at.rule.depth step.call k so.0) so.0 (s.duly z);
}
  where
    begun : Learnt
    begun = unnamed_types at.learnt

    known : known_at (begun_at at begun) step ≡ known_at at step
    known = rw f refl

    first : (steps : List Step) → FirstIs (begun_at at begun) step out s.learnt steps → FirstIs at step out s.learnt steps
    first [] e = e
    first (one ∷ more) (begins, is) = (subst (λ (l : Learnt). BeginsAs (named_in (request_of at.rule.depth (first_call at.rule step.call))) (first_call at.rule step.call) l out.groups one.call s.learnt) known begins, is)

    stops : (steps : List Step) (outs : List Outcome) (run : Plays_exchanges (begun_at at s.learnt) steps outs next) → FirstIs (begun_at at begun) step out s.learnt steps → s.stop ≡ stopped_at (begun_at at begun) (begun_at at s.learnt) steps outs next run → s.stop ≡ stopped_at at (begun_at at s.learnt) steps outs next run
    stops [] outs run e is = absurd e
    stops (one ∷ more) [] run e is = absurd run
    stops (one ∷ more) (told ∷ outs) run e is = is
