-- What is looked up before a call's first exchange: it begins as any other, with what is known then.
use Rattle.pg_play.proofs.FollowLaws.{first_runs, first_known}
use Rattle.std.proofs.Common.{◌≡◌, ℕ, ◌+◌, ◌-◌, ◌^◌, min, true, false, List, [], ◌∷◌, refl, sym, ap, ◌∙◌, subst, arith, Option, Some, None, inl, inr}
use Rattle.pg_request.specs.declared.naming.Declared.{Declared}
use Rattle.pg_rule.specs.declared.cache.Entry.{Entry}
use Rattle.pg_rule.specs.declared.rule.Rule.{Rule}
use Rattle.pg_rule.proofs.OrderLaws.{each_by}
use Rattle.pg_stream.specs.Streams.{StreamSeen}
use Rattle.pg_call.specs.declared.kind.Change.{Change}
use Rattle.pg_call.specs.declared.kind.Change.TheVariants as changes
use Rattle.pg_call.specs.declared.request.Request.{Request}
use Rattle.pg_call.specs.declared.request.Request.TheVariants as requests
use Rattle.pg_call.specs.declared.statement.Described.{Described}
use Rattle.pg_call.specs.Requests.{CanBeSaid, numbered_by, widths_of}
use Rattle.pg_learning.specs.declared.learnt.Learnt.{Learnt}
use Rattle.pg_conn.specs.Connections.{ConnSeen, handed, resolved}
use Rattle.pg_conn.specs.Looking.{LooksUp, if_named, named_in}
use Rattle.pg_conn.specs.Statements.{asked_by, held_by}
use Rattle.pg_report.specs.declared.outcome.Outcome.{Outcome}
use Rattle.pg_script.specs.declared.step.Call.{Call}
use Rattle.pg_script.specs.declared.step.Call.TheVariants as calls
use Rattle.pg_script.specs.declared.step.Step.{Step}
use Rattle.pg_script.specs.declared.step.Parting.{Parting}
use Rattle.pg_script.specs.declared.step.Parting.TheVariants as partings
use Rattle.pg_play.specs.Shown.{exchange_for, first_call, parting_of, request_of, waits_to_show}
use Rattle.pg_play.specs.Calls.{IsUnpolled, WaitsFew, begun_call, change_for, knowing, none_counted}
use Rattle.pg_play.specs.Causes.{AnsweredPending, EndsDuly, IsDroppedAs, OpensSavepoint}
use Rattle.pg_play.specs.Places.{Place}
use Rattle.pg_play.specs.Plays.{StandsAt, begun_at}
use Rattle.pg_play.specs.Kept.{IsKeptAt, Keeps}
use Rattle.pg_play.proofs.CalledLaws.{KnownAt, known_none}
use Rattle.pg_play.proofs.DueLaws.{WithinMost}
use Rattle.pg_play.proofs.ExchangeLaws.{IsExchange, LeadsTo, before_how, exchange_asks, exchange_parts, exchange_polled, looks_or, runs_how, undescribed_asks, IsReady, IsLooked, described_else, named_call, undescribed_held}
use Rattle.pg_play.proofs.InTurnLaws.{BeginsAt}
use Rattle.pg_play.proofs.BehindLaws.{IsHeldFor, RunsAt}
use Rattle.pg_play.proofs.KeptLaws.{IsNumbered, IsSought, IsSound, first_sound}
use Rattle.pg_play.proofs.ThroughLaws.{looked_stays, named_is, named_self}

-- a statement that isn't described yet, or one that is run
abbrev IsBefore : Request → Type 0
IsBefore (requests.Describe x) = x.described ≡ None
IsBefore (requests.Run bound) = Unit {0}
IsBefore told = ⊥

undescribed_in : (r told : Request) (names : List Declared) (d : Option Described) → if_named r names d ≡ Some told → d ≡ None
undescribed_in r told [] d e = absurd cc
undescribed_in r told (name ∷ names) None e = refl
undescribed_in r told (name ∷ names) (Some d) e = absurd cc

named_before : (r told : Request) → named_in r ≡ Some told → IsBefore r
named_before (requests.Describe x) told e = undescribed_in (requests.Describe x) told x.arguments.names x.described e
named_before (requests.Run bound) told e = tt
named_before _ told e = absurd cc

self_asks : (rule : Rule) (told : Request) → IsBefore told → asked_by rule told ≡ told
self_asks rule (requests.Describe x) e = undescribed_asks rule x e
self_asks rule (requests.Run bound) e = refl
self_asks rule _ e = absurd e

self_held : (rule : Rule) (told : Request) → IsBefore told → held_by rule told ≡ rule
self_held rule (requests.Describe x) e = undescribed_held rule x e
self_held rule (requests.Run bound) e = refl
self_held rule _ e = absurd e

self_stands : (told : Request) → IsBefore told → IsExchange told
self_stands (requests.Describe x) e = tt
self_stands (requests.Run bound) e = tt
self_stands _ e = absurd e

-- it isn't described
ready_none : (told next : Request) → IsBefore told → IsReady told next → ⊥
ready_none told next e r = described_else r.extended r.extended r.description refl r.described (subst IsBefore r.tells e)

-- what is asked before the exchange that a step begins with
pub record BeforeFirst (rule : Rule) (d : ℕ) (call : Call) (told next : Request) : Type 0 where
  pub described : first_call rule call ≡ exchange_for told
  pub before : IsBefore told
  pub leads : LeadsTo told next
  pub stands : IsExchange next
  pub same : asked_by rule next ≡ next
  pub held : (k : Rule) → held_by k next ≡ k
  pub parts : parting_of (exchange_for next) ≡ parting_of (first_call rule call)
  pub how : runs_how (exchange_for next) ≡ runs_how (first_call rule call)

asked_same : (rule : Rule) (told next : Request) → IsBefore told → LeadsTo told next → asked_by rule next ≡ next
asked_same rule told next e (inl is) = ap (asked_by rule) is ∙ self_asks rule told e ∙ sym is
asked_same rule told next e (inr (inl l)) = ap (asked_by rule) l.asks ∙ sym l.asks
asked_same rule told next e (inr (inr (inl f))) = ap (asked_by rule) f.asks ∙ undescribed_asks rule (numbered_by f.oids f.extended) f.undescribed ∙ sym f.asks
asked_same rule told next e (inr (inr (inr (inl r)))) = absurd (ready_none told next e r)
asked_same rule told next e (inr (inr (inr (inr (inl f))))) = ap (asked_by rule) f.asks ∙ sym f.asks
asked_same rule told next e (inr (inr (inr (inr (inr f))))) = ap (asked_by rule) f.asks ∙ sym f.asks

held_so : (rule : Rule) (told next : Request) → IsBefore told → LeadsTo told next → held_by rule next ≡ rule
held_so rule told next e (inl is) = ap (held_by rule) is ∙ self_held rule told e
held_so rule told next e (inr (inl l)) = ap (held_by rule) l.asks
held_so rule told next e (inr (inr (inl f))) = ap (held_by rule) f.asks ∙ undescribed_held rule (numbered_by f.oids f.extended) f.undescribed
held_so rule told next e (inr (inr (inr (inl r)))) = absurd (ready_none told next e r)
held_so rule told next e (inr (inr (inr (inr (inl f))))) = ap (held_by rule) f.asks
held_so rule told next e (inr (inr (inr (inr (inr f))))) = ap (held_by rule) f.asks

stands_so : (told next : Request) → IsBefore told → LeadsTo told next → IsExchange next
stands_so told next e (inl is) = subst IsExchange (sym is) (self_stands told e)
stands_so told next e (inr (inl l)) = subst IsExchange (sym l.asks) tt
stands_so told next e (inr (inr (inl f))) = subst IsExchange (sym f.asks) tt
stands_so told next e (inr (inr (inr (inl r)))) = absurd (ready_none told next e r)
stands_so told next e (inr (inr (inr (inr (inl f))))) = subst IsExchange (sym f.asks) tt
stands_so told next e (inr (inr (inr (inr (inr f))))) = subst IsExchange (sym f.asks) tt

pub before_first : (rule : Rule) (d : ℕ) (call : Call) (told next : Request) (a b : Learnt) → named_in (request_of d (first_call rule call)) ≡ Some told → LooksUp told a next b → BeforeFirst rule d call told next
before_first rule d call told next a b e looks =
    let r = request_of d (first_call rule call) in
    let described : first_call rule call ≡ exchange_for told = named_call d (first_call rule call) r told e refl ∙ ap exchange_for (named_is r told e) in
    let before = named_before told told (named_self r told e) in
    let leads = looks_or told next a b looks in
    record {
      described = described;
      before = before;
      leads = leads;
      stands = stands_so told next before leads;
      same = asked_same rule told next before leads;
      held = λ k. held_so k told next before leads;
      parts = exchange_parts next ∙ sym (ap parting_of described ∙ exchange_parts told);
      how = before_how told next leads ∙ sym (ap runs_how described);
    }

-- the exchange begins as the first of a call does, on a connection that knows so much
pub looked_begun : (a : ConnSeen) (r told asked next : Request) (learnt : Learnt) (from : ConnSeen) → r ≡ told → named_in told ≡ Some told → asked ≡ asked_by a.rule next → from ≡ resolved (handed next (knowing learnt (begun_call r a))) → LooksUp told a.learnt next learnt → held_by a.rule next ≡ a.rule
    → from ≡ begun_call asked (knowing learnt a)
looked_begun a r told asked next learnt from is named asks f looks held =
    let change : change_for r ≡ change_for (asked_by a.rule next) = ap change_for is ∙ plain told named ∙ sym (looked_stays a.rule told next a.learnt learnt named looks) in
    f ∙ ap (λ (k : Change). as_begun (asked_by a.rule next) k (held_by a.rule next) (min (0 + 0) (2 ^ 64 - 1))) change
    ∙ ap (λ (k : Rule). as_begun (asked_by a.rule next) (change_for (asked_by a.rule next)) k (min (0 + 0) (2 ^ 64 - 1))) held
    ∙ ap (λ (n : ℕ). as_begun (asked_by a.rule next) (change_for (asked_by a.rule next)) a.rule n) none
    ∙ ap (λ (q : Request). begun_call q (knowing learnt a)) (sym asks)
  where
    plain : (q : Request) → named_in q ≡ Some told → change_for q ≡ changes.Stays
    plain (requests.Describe x) n = refl
    plain (requests.Run bound) n = refl
    plain _ n = absurd cc

    none : min (0 + 0) (2 ^ 64 - 1) ≡ 0
    none = omega arith

    as_begun : Request → Change → Rule → ℕ → ConnSeen
    as_begun q change rule earlier = record (begun_call q (knowing learnt a)) { change = change; rule = rule; earlier = earlier }

-- what is learnt changes nothing of what is kept
kept_so : (at : Place) (learnt : Learnt) (e : Entry) → IsKeptAt at e → IsKeptAt (begun_at at learnt) e
kept_so at learnt e k = record {
  before = k.before;
  later = k.later;
  types = k.types;
  groups = k.groups;
  spared = k.spared;
  told = k.told;
  more = k.more;
  answered = k.answered;
  read = k.read;
  ends = k.ends;
  has_frames = k.has_frames;
  well = k.well;
  columns = k.columns;
}

pub keeps_begun : (at : Place) (learnt : Learnt) → Keeps at → Keeps (begun_at at learnt)
keeps_begun at learnt k = record { orderly = k.orderly; kept = each_by (IsKeptAt at) (IsKeptAt (begun_at at learnt)) (kept_so at learnt) _ k.kept }

pub stands_so_at : (start : StreamSeen) (at : Place) (a : ConnSeen) (learnt : Learnt) → StandsAt start at a → StandsAt start (begun_at at learnt) (knowing learnt a)
stands_so_at start at a learnt st = record {
  flows = st.flows;
  ledger = st.ledger;
  failed = st.failed;
  broken = st.broken;
  seen = st.seen;
  rule = st.rule;
  learnt = refl;
  room = st.room;
  idle = st.idle;
  sayable = st.sayable;
  are_groups = st.are_groups;
  between = st.between;
  plain = st.plain;
  requests = st.requests;
}

-- a lookup for a statement that isn't described yet
before_looked : (told next : Request) → IsBefore told → (l : IsLooked told next) → l.extended.described ≡ None
before_looked told next e l = subst IsBefore l.tells e

before_sound : (rule : Rule) (told next : Request) → IsBefore told → IsSound rule (exchange_for told) → LeadsTo told next → IsSound rule (exchange_for next)
before_sound rule told next e n (inl is) = subst (λ (r : Request). IsSound rule (exchange_for r)) (sym is) n
before_sound rule told next e n (inr (inr (inl f))) =
    let numbered : IsNumbered rule f.extended = subst (λ (r : Request). IsSound rule (exchange_for r)) f.tells n in
    subst (λ (r : Request). IsSound rule (exchange_for r)) (sym f.asks) numbered
before_sound rule told next e n (inr (inr (inr (inl r)))) = absurd (ready_none told next e r)
before_sound rule told next e n (inr (inr (inr (inr (inl f))))) = subst (λ (r : Request). IsSound rule (exchange_for r)) (sym f.asks) tt
before_sound rule told next e n (inr (inr (inr (inr (inr f))))) = subst (λ (r : Request). IsSound rule (exchange_for r)) (sym f.asks) tt
before_sound rule told next e n (inr (inl l)) =
    let numbered : IsNumbered rule l.extended = subst (λ (r : Request). IsSound rule (exchange_for r)) l.tells n in
    subst (λ (r : Request). IsSound rule (exchange_for r)) (sym l.asks) (subst (λ (z : Option Described). IsSought rule (record l.extended { is_looked_up = true }) z) (sym (before_looked told next e l)) numbered)

-- a statement that is run stands at the server
abbrev RunsSo : Place → Request → Type 0
RunsSo at (requests.Run bound) = RunsAt at bound bound.again
RunsSo at told = Unit {0}

before_holds : (at : Place) (told next : Request) → IsBefore told → RunsSo at told → LeadsTo told next → IsHeldFor at (exchange_for next)
before_holds at told next e runs (inl is) = subst (λ (r : Request). IsHeldFor at (exchange_for r)) (sym is) (self told e)
  where
    self : (r : Request) → IsBefore r → IsHeldFor at (exchange_for r)
    self (requests.Describe x) e = tt
    self (requests.Run bound) e = tt
    self _ e = absurd e
before_holds at told next e runs (inr (inr (inl f))) = subst (λ (r : Request). IsHeldFor at (exchange_for r)) (sym f.asks) tt
before_holds at told next e runs (inr (inr (inr (inl r)))) = absurd (ready_none told next e r)
before_holds at told next e runs (inr (inr (inr (inr (inl f))))) =
    let kept : RunsAt at f.bound f.bound.again = subst (RunsSo at) f.tells runs in
    subst (λ (r : Request). IsHeldFor at (exchange_for r)) (sym f.asks) (so f.bound.again kept)
  where
    so : (o : Option (List ℕ)) → RunsAt at f.bound o → RunsAt at (record f.bound { is_looked_up = f.looked; keeping = f.keeping }) o
    so (Some sql) k = tt
    so None k = k
before_holds at told next e runs (inr (inr (inr (inr (inr f))))) = subst (λ (r : Request). IsHeldFor at (exchange_for r)) (sym f.asks) tt
before_holds at told next e runs (inr (inl l)) = subst (λ (r : Request). IsHeldFor at (exchange_for r)) (sym l.asks) (λ d is numbered. absurd (none_some d (sym (before_looked told next e l) ∙ is)))
  where
    none_some : (d : Described) → None ≡ Some d → ⊥
    none_some d e = cc

before_known : (start : StreamSeen) (at : Place) (a : ConnSeen) (told next : Request) → StandsAt start at a → IsBefore told → KnownAt (widths_of told) at → LeadsTo told next → KnownAt (widths_of next) at
before_known start at a told next st e k (inl is) = subst (λ (r : Request). KnownAt (widths_of r) at) (sym is) k
before_known start at a told next st e k (inr (inl l)) = subst (λ (r : Request). KnownAt (widths_of r) at) (sym l.asks) (known_none start at a st)
before_known start at a told next st e k (inr (inr (inl f))) = subst (λ (r : Request). KnownAt (widths_of r) at) (sym f.asks) (known_none start at a st)
before_known start at a told next st e k (inr (inr (inr (inl r)))) = absurd (ready_none told next e r)
before_known start at a told next st e k (inr (inr (inr (inr (inl f))))) = subst (λ (r : Request). KnownAt (widths_of r) at) (sym f.asks) (known_none start at a st)
before_known start at a told next st e k (inr (inr (inr (inr (inr f))))) =
    let same : KnownAt (widths_of (requests.Run f.bound)) at = subst (λ (r : Request). KnownAt (widths_of r) at) f.tells k in
    subst (λ (r : Request). KnownAt (widths_of r) at) (sym f.asks) same

runs_before : (at : Place) (call : Call) (told : Request) → Keeps at → first_call at.rule call ≡ exchange_for told → IsBefore told → RunsSo at told
runs_before at call (requests.Describe x) k is e = tt
runs_before at call (requests.Run bound) k is e = first_runs at call bound k is
runs_before at call _ k is e = absurd e

pub begins_before : (start : StreamSeen) (at : Place) (a : ConnSeen) (step : Step) (told next : Request) (learnt : Learnt) → StandsAt start at a → Keeps at → named_in (request_of at.rule.depth (first_call at.rule step.call)) ≡ Some told → LooksUp told at.learnt next learnt
    → BeginsAt start (begun_at at learnt) (knowing learnt a) none_counted (exchange_for next)
begins_before start at a step told next learnt st k e looks =
    let first = before_first at.rule at.rule.depth step.call told next at.learnt learnt e looks in
    let stands = stands_so_at start at a learnt st in
    let keeps = keeps_begun at learnt k in
    let known = subst (λ (r : Request). KnownAt (widths_of r) (begun_at at learnt)) (named_is (request_of at.rule.depth (first_call at.rule step.call)) told e) (first_known start (begun_at at learnt) (knowing learnt a) at.rule.depth step.call stands keeps) in
    record {
      stands = stands;
      polled = (exchange_polled next).0;
      known = subst (λ (r : Request). KnownAt (widths_of r) (begun_at at learnt)) (sym (exchange_asks at.rule.depth next first.stands)) (before_known start (begun_at at learnt) (knowing learnt a) told next stands first.before known first.leads);
      fits = omega arith;
      keeps = keeps;
      sound = before_sound at.rule told next first.before (subst (IsSound at.rule) first.described (first_sound at.rule step.call)) first.leads;
      holds = before_holds (begun_at at learnt) told next first.before (runs_before (begun_at at learnt) step.call told keeps first.described first.before) first.leads;
    }

pub dropped_before : (q : Parting) (at : Place) (learnt : Learnt) (step : Step) (out : Outcome) (stop : Place) → IsDroppedAs q (begun_at at learnt) step out stop → IsDroppedAs q at step out stop
dropped_before partings.None at learnt step out stop d = d
dropped_before partings.Left at learnt step out stop d = tt
dropped_before partings.Unsaid at learnt step out stop d = tt
dropped_before (partings.Failed message) at learnt step out stop d = tt

-- and ends duly
pub duly_looked : (at : Place) (step : Step) (r : Request) (out : Outcome) (stop : Place) (x : Request) → (IsUnpolled step → ⊥) → (OpensSavepoint at step → ⊥) → at.broken ≡ None → CanBeSaid x → named_in r ≡ Some x → (step.call ≡ calls.Flush → r ≡ request_of at.rule.depth (first_call at.rule calls.Flush))
    → (pending : ℕ) × AnsweredPending out pending × WaitsFew step.polls pending out.end → (waits_to_show step.call ≡ false → WithinMost out.end out.items step.most) → EndsDuly at step r out stop
duly_looked at step r out stop x n opens whole can e flush few most = record {
  savepoint = λ m o. absurd (opens o);
  unpolled = λ u. absurd (n u);
  kept = λ fault w m o. let y = sym whole ∙ w in absurd cc;
  refused = λ w m o u. absurd (u (subst CanBeSaid (sym (named_is r x e)) can));
  flushed = λ w m c. let y = sym (ap named_in (flush c)) ∙ e in absurd cc;
  few = few;
  most = most;
}
