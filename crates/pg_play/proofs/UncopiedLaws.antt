-- Where no step copies from the client, none is failed, and each group is one of the simple or the extended query.
use Rattle.std.proofs.Common.{◌≡◌, ℕ, zero, suc, ◌^◌, ◌-◌, ltb, Bool, true, false, ◌||◌, cond, List, [], ◌∷◌, Option, Some, None, refl, sym, ap, ◌∙◌, subst, inl, inr}
use Rattle.std.specs.List.{AllByRecursion}
use Rattle.std.proofs.lemmas.Option.{same_Some}
use Rattle.pg_wire.specs.Groups.{IsGroup}
use Rattle.pg_wire.proofs.Each.{each_join}
use Rattle.pg_request.specs.Texts.{rollback_text}
use Rattle.pg_call.specs.declared.kind.How.{How}
use Rattle.pg_call.specs.declared.request.Request.{Request}
use Rattle.pg_call.specs.declared.request.Request.TheVariants as requests
use Rattle.pg_call.specs.Requests.{Group, groups_of}
use Rattle.pg_conn.specs.Connections.{rollback}
use Rattle.pg_conn.specs.Holding.{release}
use Rattle.pg_conn.specs.Statements.{asked_by}
use Rattle.pg_request.specs.Queries.{QueryText, ArgumentsSeen}
use Rattle.pg_rule.specs.declared.rule.Rule.{Rule}
use Rattle.pg_report.specs.declared.outcome.End.{End}
use Rattle.pg_report.specs.declared.outcome.End.TheVariants as ends
use Rattle.pg_report.specs.declared.outcome.Outcome.{Outcome}
use Rattle.pg_script.specs.declared.step.Call.{Call}
use Rattle.pg_script.specs.declared.step.Call.TheVariants as calls
use Rattle.pg_script.specs.declared.step.Step.{Step}
use Rattle.pg_play.specs.Shown.{exchange_for, first_as, first_call, is_fed, next_call, request_of}
use Rattle.pg_play.specs.Places.{Place, Queues, owed}
use Rattle.pg_play.specs.Copying.{fails}
use Rattle.pg_play.specs.Settling.{cleanup_of, release_at, rollback_at}
use Rattle.pg_play.specs.Plays.{CopyNone, FirstIs, HandsOn, Plays_exchange, Plays_exchanges, Plays_from, Plays_step, BeginsAs, begun_at, known_at}
use Rattle.pg_play.proofs.PlaceLaws.{all_split, plain_asked}
use Rattle.pg_learning.specs.declared.learnt.Learnt.{Learnt}
use Rattle.pg_conn.specs.Looking.{named_in}

-- nothing is failed for it
fails_none : (call : Call) (own : List Group) (end : End) → is_fed call ≡ false → fails call own end ≡ false
fails_none (calls.Feed fed) own end n = absurd cc
fails_none _ own end n = refl

-- the exchanges of such a call are such calls
exchange_plain : (r : Request) → is_fed (exchange_for r) ≡ false
exchange_plain (requests.Describe x) = refl
exchange_plain (requests.Run bound) = refl
exchange_plain (requests.Evict v) = refl
exchange_plain (requests.Look lookup) = refl
exchange_plain (requests.Fill filling) = refl
exchange_plain (requests.Prepare p) = refl
exchange_plain (requests.Clear statements) = refl
exchange_plain _ = refl

first_as_plain : (rule : Rule) (how : How) (query : QueryText) (o : Option ArgumentsSeen) (call : Call) → is_fed call ≡ false → is_fed (first_as rule how query o call) ≡ false
first_as_plain rule how query None call n = n
first_as_plain rule how query (Some arguments) call n = exchange_plain _

first_plain : (rule : Rule) (call : Call) → is_fed call ≡ false → is_fed (first_call rule call) ≡ false
first_plain rule (calls.Execute query) n = first_as_plain rule _ query query.arguments (calls.Execute query) refl
first_plain rule (calls.ExecuteMany query) n = first_as_plain rule _ query query.arguments (calls.ExecuteMany query) refl
first_plain rule (calls.Fetch query) n = first_as_plain rule _ query query.arguments (calls.Fetch query) refl
first_plain rule (calls.FetchMany query) n = first_as_plain rule _ query query.arguments (calls.FetchMany query) refl
first_plain rule (calls.FetchAll query) n = first_as_plain rule _ query query.arguments (calls.FetchAll query) refl
first_plain rule (calls.FetchOptional query) n = first_as_plain rule _ query query.arguments (calls.FetchOptional query) refl
first_plain rule (calls.FetchOne query) n = first_as_plain rule _ query query.arguments (calls.FetchOne query) refl
first_plain rule (calls.Prepare preparation) n = exchange_plain _
first_plain rule calls.Clear n = exchange_plain _
first_plain rule (calls.Feed fed) n = absurd cc
first_plain rule _ n = refl

next_plain : (rule : Rule) (asks : Option Request) (next : Call) → next_call rule asks ≡ Some next → is_fed next ≡ false
next_plain rule asks next e = by asks e
  where
    by : (o : Option Request) → next_call rule o ≡ Some next → is_fed next ≡ false
    by None e = absurd cc
    by (Some r) e = ap is_fed (sym (same_Some (exchange_for (asked_by rule r)) next e)) ∙ exchange_plain (asked_by rule r)

-- ---- an exchange

queued_plain : (end : End) (whole own : List Group) → Queues end whole own → AllByRecursion IsGroup whole → AllByRecursion IsGroup own
queued_plain (ends.Ok answer) whole own q h = subst (AllByRecursion IsGroup) (sym q) h
queued_plain (ends.Err e) whole own q h = (all_split IsGroup own q.0 (subst (AllByRecursion IsGroup) (sym q.1) h)).0
queued_plain ends.Dropped whole own q h = (all_split IsGroup own q.0 (subst (AllByRecursion IsGroup) (sym q.1) h)).0

rolled_plain : (depth owed : ℕ) → AllByRecursion IsGroup (rollback_at depth owed)
rolled_plain zero owed = tt
rolled_plain (suc left) owed = by (ltb owed (2 ^ 64 - 1))
  where
    by : (b : Bool) → AllByRecursion IsGroup (cond b (rollback left ∷ []) [])
    by true = (inl (rollback_text left, refl), tt)
    by false = tt

released_plain : (text : List ℕ) (n : ℕ) → AllByRecursion IsGroup (release_at text n)
released_plain text n = by (ltb n (2 ^ 64 - 1))
  where
    by : (b : Bool) → AllByRecursion IsGroup (cond b (release text ∷ []) [])
    by true = (inl (text, refl), tt)
    by false = tt

begun_plain : (b : Bool) → AllByRecursion IsGroup (cond b (rollback 0 ∷ []) [])
begun_plain true = (inl (rollback_text 0, refl), tt)
begun_plain false = tt

cleaned_none : (d : ℕ) (call : Call) (end : End) (n : ℕ) → AllByRecursion IsGroup (cleanup_of d call end [] n)
cleaned_none d calls.StartRollback end n = rolled_plain d n
cleaned_none d (calls.Release text) end n = released_plain text n
cleaned_none d _ end n = tt

cleaned_some : (d : ℕ) (call : Call) (end : End) (group : Group) (own : List Group) (n : ℕ) → AllByRecursion IsGroup (cleanup_of d call end (group ∷ own) n)
cleaned_some d calls.StartRollback end group own n = rolled_plain d n
cleaned_some d (calls.Release text) end group own n = released_plain text n
cleaned_some d calls.Begin end group own n = begun_plain _
cleaned_some d (calls.BeginWith query) end group own n = begun_plain _
cleaned_some d _ end group own n = tt

cleaned_plain : (d : ℕ) (call : Call) (end : End) (own : List Group) (n : ℕ) → AllByRecursion IsGroup (cleanup_of d call end own n)
cleaned_plain d call end [] n = cleaned_none d call end n
cleaned_plain d call end (group ∷ own) n = cleaned_some d call end group own n

-- what holds of a place where nothing was copied from the client
abbrev pub IsPlain : Place → Type 0
IsPlain at = (at.has_failed ≡ false) × AllByRecursion IsGroup at.groups

exchange_on : (at : Place) (step : Step) (out : Outcome) (next : Place) → Plays_exchange at step out next → is_fed step.call ≡ false → IsPlain at → IsPlain next
exchange_on at step out next one n p =
    let call = one.call in
    let own : AllByRecursion IsGroup call.own = queued_plain one.told.end (groups_of (request_of at.rule.depth step.call)) call.own call.queued.asks (plain_asked at.rule.depth step.call n) in
    let cleanup : AllByRecursion IsGroup one.settles.cleanup = subst (AllByRecursion IsGroup) (sym one.settles.cleans) (cleaned_plain at.rule.depth step.call one.told.end call.own (owed one.left_at)) in
    let mid : AllByRecursion IsGroup one.ended_at.groups = subst (AllByRecursion IsGroup) (sym call.queued.groups) (each_join IsGroup at.groups call.own p.1 own) in
    let left : AllByRecursion IsGroup one.left_at.groups = subst (AllByRecursion IsGroup) (sym (ap (λ (x : Place). x.groups) one.leaves)) mid in (
      one.settles.unfailed ∙ ap (λ (x : Place). x.has_failed) one.leaves ∙ ap (λ (b : Bool). b || one.ended_at.has_failed) (fails_none step.call call.own one.told.end n) ∙ call.queued.unfailed ∙ p.0,
      subst (AllByRecursion IsGroup) (sym one.settles.groups) (each_join IsGroup one.left_at.groups one.settles.cleanup left cleanup),
    )

exchanges_on : (at : Place) (steps : List Step) (outs : List Outcome) (last : Place) → Plays_exchanges at steps outs last → CopyNone steps → IsPlain at → IsPlain last
exchanges_on at [] [] last run n p = subst IsPlain (sym run) p
exchanges_on at [] (o ∷ outs) last run n p = absurd run
exchanges_on at (s ∷ steps) [] last run n p = absurd run
exchanges_on at (s ∷ steps) (o ∷ outs) last run n p = exchanges_on run.0 steps outs last run.2 n.1 (exchange_on at s o run.0 run.1 n.0 p)

-- ---- a step

handed_plain : (at : Place) (steps : List Step) (outs : List Outcome) (last : Place) (run : Plays_exchanges at steps outs last) (first : Step) (rest : List Step) → steps ≡ first ∷ rest → is_fed first.call ≡ false → HandsOn at steps outs last run → CopyNone steps
handed_plain at [] outs last run first rest e n h = absurd cc
handed_plain at (s ∷ steps) [] last run first rest e n h = absurd run
handed_plain at (s ∷ []) (o ∷ outs) last run first rest e n h =
    let same : s ≡ first = cc in
    (ap (λ (x : Step). is_fed x.call) same ∙ n, tt)
handed_plain at (s ∷ t ∷ more) (o ∷ outs) last run first rest e n h =
    let same : s ≡ first = cc in
    (ap (λ (x : Step). is_fed x.call) same ∙ n, handed_plain run.0 (t ∷ more) outs last run.2 t more refl (next_plain run.0.rule run.1.settles.asks t.call h.0.1) h.1)

-- nor is what comes before it
begins_plain : (o : Option Request) (first : Call) (at : Learnt) (groups : ℕ) (call : Call) (learnt : Learnt) → is_fed first ≡ false → BeginsAs o first at groups call learnt → is_fed call ≡ false
begins_plain None first at groups call learnt n (same, l) = ap is_fed same ∙ n
begins_plain (Some x) first at groups call learnt n (inl (same, l, g)) = ap is_fed same ∙ n
begins_plain (Some x) first at groups call learnt n (inr (next, looks, is)) = ap is_fed is ∙ by next
  where
    by : (r : Request) → is_fed (exchange_for r) ≡ false
    by (requests.Describe x) = refl
    by (requests.Run bound) = refl
    by (requests.Evict eviction) = refl
    by (requests.Look lookup) = refl
    by (requests.Fill filling) = refl
    by (requests.Prepare prepared) = refl
    by (requests.Clear statements) = refl
    by _ = refl

step_on : (at : Place) (step : Step) (out : Outcome) (next : Place) → Plays_step at step out next → is_fed step.call ≡ false → IsPlain at → IsPlain next
step_on at step out next one n p = by one.exchanges refl
  where
    by : (exchanges : List Step) → one.exchanges ≡ exchanges → IsPlain next
    by [] e = let f = one.first in absurd (subst (λ (x : List Step). FirstIs at step out one.learnt x) e f)
    by (first ∷ later) e =
        let f = subst (λ (x : List Step). FirstIs at step out one.learnt x) e one.first in
        exchanges_on (begun_at at one.learnt) one.exchanges one.outs next one.run (handed_plain (begun_at at one.learnt) one.exchanges one.outs next one.run first later e (begins_plain (named_in (request_of at.rule.depth (first_call at.rule step.call))) (first_call at.rule step.call) (known_at at step) out.groups first.call one.learnt (first_plain at.rule step.call n) f.0) one.hands) p

pub calls_plain : (at : Place) (steps : List Step) (outs : List Outcome) (last : Place) → Plays_from at steps outs last → CopyNone steps → IsPlain at → IsPlain last
calls_plain at [] [] last run n p = subst IsPlain (sym run) p
calls_plain at [] (o ∷ outs) last run n p = absurd run
calls_plain at (s ∷ steps) [] last run n p = absurd run
calls_plain at (s ∷ steps) (o ∷ outs) last run n p = calls_plain run.0 steps outs last run.2 n.1 (step_on at s o run.0 run.1 n.0 p)
