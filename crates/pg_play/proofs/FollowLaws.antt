-- What is so of the exchange that comes next: what it knows of its statement, and what may be held of it.
use Rattle.pg_learning.specs.declared.learnt.Learnt.{Learnt}
use Rattle.pg_play.proofs.ColumnLaws.{kept_learnt, learnt_width, told_width}
use Rattle.pg_conn.specs.Looking.{described_with}
use Rattle.pg_columns.proofs.ToldLaws.{length_columns}
use Rattle.pg_columns.specs.Told.{columns_of}
use Rattle.pg_columns.specs.declared.column.PgColumn.{PgColumn}
use Rattle.pg_call.specs.declared.after.Filling.{Filling}
use Rattle.std.proofs.Common.{◌≡◌, ℕ, zero, suc, ◌<◌, nat_eq, Bool, true, false, cond, ◌&&◌, List, [], ◌∷◌, ◌++◌, length, map, subst, refl, sym, ap, ◌∙◌, arith, append_assoc, Option, Some, None, option_map, inl, inr, bytes_eq, ◌||◌, is_some, unwrap_or, option_to_list, ap₂, IsSome}
use Rattle.std.specs.List.{AllByRecursion}
use Rattle.std.proofs.lemmas.Option.{same_Some}
use Rattle.pg_wire.specs.Frame.{Frame}
use Rattle.pg_wire.specs.Parts.{heard}
use Rattle.pg_wire.specs.Frontend.{FrontendMessage}
use Rattle.pg_wire.specs.Backend.{BackendMessage, backend_frame, FieldDescription}
use Rattle.pg_wire.specs.Groups.{IsGroup}
use Rattle.pg_wire.specs.Server.{MayHear}
use Rattle.pg_stream.specs.Streams.{StreamSeen}
use Rattle.pg_exchanges.specs.Expecting.{BeginsKnowing, Widths}
use Rattle.pg_exchanges.specs.Answering.{described}
use Rattle.pg_rule.specs.declared.cache.Entry.{Entry}
use Rattle.pg_rule.specs.declared.rule.Rule.{Rule}
use Rattle.pg_rule.specs.Caches.{entry_at}
use Rattle.pg_rule.specs.Rules.{kept, holding}
use Rattle.pg_rule.proofs.OrderLaws.{found_has}
use Rattle.pg_request.specs.Queries.{QueryText, ArgumentsSeen}
use Rattle.pg_call.specs.declared.kind.How.{How}
use Rattle.pg_call.specs.declared.kind.How.TheVariants as hows
use Rattle.pg_call.specs.declared.kind.Keeping.{Keeping}
use Rattle.pg_call.specs.declared.kind.Keeping.TheVariants as keepings
use Rattle.pg_call.specs.declared.statement.Extended.{Extended}
use Rattle.pg_call.specs.declared.statement.Described.{Described}
use Rattle.pg_call.specs.declared.statement.Bound.{Bound}
use Rattle.pg_call.specs.declared.after.Eviction.{Eviction}
use Rattle.pg_call.specs.declared.after.Lookup.{Lookup}
use Rattle.pg_call.specs.declared.statement.Prepared.{Prepared}
use Rattle.pg_call.specs.declared.after.After.{After}
use Rattle.pg_call.specs.declared.after.After.TheVariants as afters
use Rattle.pg_call.specs.declared.statement.Goal.{Goal}
use Rattle.pg_call.specs.declared.statement.Goal.TheVariants as goals
use Rattle.pg_call.specs.declared.request.Request.{Request}
use Rattle.pg_call.specs.declared.request.Request.TheVariants as requests
use Rattle.pg_call.specs.declared.answer.CallItem.{CallItem}
use Rattle.pg_call.specs.declared.calling.Beat.TheVariants as beats
use Rattle.pg_call.specs.Calls.{EndsFine}
use Rattle.pg_call.proofs.FitLaws.{hands_on_described, next_is}
use Rattle.pg_call.specs.Requests.{is_parsed_again, known as known_under, parsed_again, width_by, said_in, widths_of, Group, name_of, groups_of, behind_goal, numbered_by, request_behind, bound_by, bound_for, looked_behind}
use Rattle.pg_call.specs.Items.{parameters_after}
use Rattle.pg_call.specs.Drains.{after_readys}
use Rattle.pg_conn.specs.Connections.{ConnSeen}
use Rattle.pg_conn.specs.Statements.{asked_by, behind_description, by_leaving, entry_of, held_by, leaving, prepare_by, run_or_describe, tell_or_describe, query_by, held_behind}
use Rattle.pg_report.specs.declared.outcome.Answer.TheVariants.{Unit as AnswersUnit}
use Rattle.pg_report.specs.declared.outcome.End.TheVariants as ends
use Rattle.pg_script.specs.declared.step.Call.{Call}
use Rattle.pg_script.specs.declared.step.Call.TheVariants as calls
use Rattle.pg_play.specs.Shown.{request_of, first_as, first_call, handed_by, exchange_for}
use Rattle.pg_play.specs.Places.{Place, owed}
use Rattle.pg_play.specs.Settling.{rule_after}
use Rattle.pg_play.specs.Kept.{IsKeptAt, Keeps}
use Rattle.pg_play.specs.Plays.{StandsAt}
use Rattle.pg_play.proofs.PlaceLaws.{owed_is}
use Rattle.pg_play.proofs.PartLaws.{after_more}
use Rattle.pg_play.proofs.KnownLaws.{lawful_keeps}
use Rattle.pg_play.proofs.CalledLaws.{KnownAt, known_none}
use Rattle.pg_play.proofs.ExchangeLaws.{HandsBy, IsLooked, LeadsTo, hands_by, told_by, undescribed_asks, undescribed_held, ready}
use Rattle.pg_play.proofs.NameLaws.{each_known, named_nothing}
use Rattle.pg_play.proofs.NextLaws.{after_further, described_known}
use Rattle.pg_play.proofs.BehindLaws.{CanHold, CanHoldTold, IsHeldFor, held_after_close, looked_holds, RunsAt, runs_holds}
use Rattle.pg_play.proofs.KeptLaws.{ClosesNone, IsAfter, IsLooking, IsSought, spares_asked, IsKeptFirst, told_whole, IsToldWhole, IsToldFor, WasDescribed, IsSound, was_ready}

-- ---- what is known of a statement that is kept

known_kept : (start : StreamSeen) (at : Place) (a : ConnSeen) (e : Entry) → StandsAt start at a → 0 < e.statement → IsKeptAt at e → KnownAt ((name_of e.statement, length e.columns) ∷ []) at
known_kept start at a e st positive k group slice front gs g l count =
    let further = after_further (heard at.frames) slice (length k.before) (omega (arith, k.read)) in
    let begun : after_readys (length k.before) (heard at.frames ++ slice) ≡ map backend_frame k.told ++ (k.more ++ slice) = further ∙ ap (λ (f : List Frame). f ++ slice) k.answered ∙ append_assoc (map backend_frame k.told) k.more slice in
    let part : after_readys (length at.groups) (heard at.frames ++ slice) ≡ after_readys (owed at) slice =
    after_more (heard at.frames) slice (length at.groups) a.ledger.owed st.ledger st.between ∙ ap (λ (n : ℕ). after_readys n slice) (sym (owed_is start at a st)) in
    subst (λ (n : ℕ). BeginsKnowing ((name_of e.statement, n) ∷ []) group (after_readys (owed at) slice ++ front ∷ [])) (told_width (described k.told) e.columns k.columns)
    (lawful_keeps k.before (name_of e.statement) e.sql k.types k.later group (heard at.frames ++ slice) (after_readys (owed at) slice) (k.more ++ slice) front k.told
    (subst (AllByRecursion IsGroup) k.groups gs) g (named_nothing e.statement positive) k.spared (subst (λ (gs : List Group). MayHear (said_in (gs ++ group ∷ [])) ((heard at.frames ++ slice) ++ front ∷ [])) k.groups l) (count ∙ ap (λ (gs : List Group). length gs) k.groups) begun (ap (λ (gs : List Group). after_readys (length gs) (heard at.frames ++ slice)) (sym k.groups) ∙ part) k.ends k.has_frames k.well)

-- of what is kept there, the columns are known
pub known_of : (start : StreamSeen) (at : Place) (a : ConnSeen) (e : Entry) → StandsAt start at a → (0 < e.statement) × IsKeptAt at e → KnownAt ((name_of e.statement, length e.columns) ∷ []) at
known_of start at a e st h = known_kept start at a e st h.0 h.1

run_known : (start : StreamSeen) (at : Place) (a : ConnSeen) (d : ℕ) (how : How) (sql : List ℕ) (arguments : ArgumentsSeen) (persistent : Bool) → StandsAt start at a → Keeps at → (o : Option Entry) → entry_at sql at.rule.cache.entries ≡ o
    → KnownAt (widths_of (request_of d (exchange_for (run_or_describe at.rule how sql arguments persistent o)))) at
run_known start at a d how sql arguments persistent st k None e = known_none start at a st
run_known start at a d how sql arguments persistent st k (Some entry) e = known_of start at a entry st (found_has (λ e. (0 < e.statement) × IsKeptAt at e) (λ e. bytes_eq e.sql sql) at.rule.cache.entries entry (each_known at k) e)

as_known : (start : StreamSeen) (at : Place) (a : ConnSeen) (d : ℕ) (how : How) (query : QueryText) (call : Call) → StandsAt start at a → Keeps at → widths_of (request_of d call) ≡ [] → (o : Option ArgumentsSeen) → KnownAt (widths_of (request_of d (first_as at.rule how query o call))) at
as_known start at a d how query call st k w None = subst (λ (x : Widths). KnownAt x at) (sym w) (known_none start at a st)
as_known start at a d how query call st k w (Some arguments) = run_known start at a d how query.sql arguments query.persistent st k (entry_at query.sql at.rule.cache.entries) refl

none_known : (start : StreamSeen) (at : Place) (a : ConnSeen) (d : ℕ) (call : Call) → StandsAt start at a → widths_of (request_of d call) ≡ [] → KnownAt (widths_of (request_of d call)) at
none_known start at a d call st w = subst (λ (x : Widths). KnownAt x at) (sym w) (known_none start at a st)

-- what the first exchange of a call takes as known is so
pub first_known : (start : StreamSeen) (at : Place) (a : ConnSeen) (d : ℕ) (call : Call) → StandsAt start at a → Keeps at → KnownAt (widths_of (request_of d (first_call at.rule call))) at
first_known start at a d (calls.Execute query) st k = as_known start at a d hows.Execute query (calls.Execute query) st k refl query.arguments
first_known start at a d (calls.ExecuteMany query) st k = as_known start at a d hows.ExecuteMany query (calls.ExecuteMany query) st k refl query.arguments
first_known start at a d (calls.Fetch query) st k = as_known start at a d hows.Fetch query (calls.Fetch query) st k refl query.arguments
first_known start at a d (calls.FetchMany query) st k = as_known start at a d hows.FetchMany query (calls.FetchMany query) st k refl query.arguments
first_known start at a d (calls.FetchAll query) st k = as_known start at a d hows.FetchAll query (calls.FetchAll query) st k refl query.arguments
first_known start at a d (calls.FetchOptional query) st k = as_known start at a d hows.FetchOptional query (calls.FetchOptional query) st k refl query.arguments
first_known start at a d (calls.FetchOne query) st k = as_known start at a d hows.FetchOne query (calls.FetchOne query) st k refl query.arguments
first_known start at a d (calls.Prepare p) st k = none_known start at a d (first_call at.rule (calls.Prepare p)) st (by (entry_at p.sql at.rule.cache.entries))
  where
    by : (o : Option Entry) → widths_of (request_of d (exchange_for (tell_or_describe at.rule (record { sql = p.sql; parameters = []; columns = None; keeping = keepings.Stays; declared = Some p.types }) o))) ≡ []
    by (Some e) = refl
    by None = refl
first_known start at a d calls.Clear st k = none_known start at a d (first_call at.rule calls.Clear) st (by (nat_eq (length at.rule.cache.entries) 0))
  where
    by : (b : Bool) → widths_of (request_of d (exchange_for (asked_by at.rule (cond b requests.Flush (requests.Clear []))))) ≡ []
    by true = refl
    by false = refl
first_known start at a zero calls.Commit st k = known_none start at a st
first_known start at a (suc left) calls.Commit st k = known_none start at a st
first_known start at a zero calls.Rollback st k = known_none start at a st
first_known start at a (suc left) calls.Rollback st k = known_none start at a st
first_known start at a d _ st k = known_none start at a st

-- what comes behind a close knows the columns of its statement
after_known : (start : StreamSeen) (at : Place) (a : ConnSeen) (after : After) → StandsAt start at a → Keeps at → IsAfter at.rule after → KnownAt (widths_of (request_behind after)) at
after_known start at a (afters.Prepare prepared) st k h = known_none start at a st
after_known start at a (afters.Fill filling) st k h = known_none start at a st
after_known start at a (afters.Run bound) st k (e, others, is, same, columns) = by bound.again
  where
    known : KnownAt ((name_of e.statement, length e.columns) ∷ []) at
    known = known_of start at a e st (subst (AllByRecursion (λ e. (0 < e.statement) × IsKeptAt at e)) is (each_known at k)).0

    by : (again : Option (List ℕ)) → KnownAt (known_under (name_of bound.statement) (width_by again bound.columns)) at
    by (Some sql) = known_none start at a st
    by None =
        subst (λ (n : ℕ). KnownAt (known_under (name_of n) (option_map (λ (c : List PgColumn). length c) bound.columns)) at) (sym same)
        (subst (λ (o : Option (List PgColumn)). KnownAt (known_under (name_of e.statement) (option_map (λ (c : List PgColumn). length c) o)) at) (sym columns) known)

-- what is run knows no more, and a lookup before that knows nothing
bound_known : (filling : Option (List ℕ)) (bound : Bound) (at : Place) → KnownAt (widths_of (requests.Run bound)) at → KnownAt [] at → KnownAt (widths_of (request_behind (bound_by filling bound))) at
bound_known None bound at k none = k
bound_known (Some text) bound at k none = none

-- so does what comes behind a description, where its columns are known or it is prepared once more
told_known : (rule : Rule) (x : Extended) (d : Described) (at : Place) → (is_parsed_again x ≡ false → KnownAt (known_under (name_of x.statement) (option_map (λ (c : List PgColumn). length c) d.columns)) at) → KnownAt [] at → KnownAt (widths_of (asked_by rule (requests.Describe (record x { described = Some d })))) at
told_known rule x d at k none = by (nat_eq x.statement 0) (option_map (λ (e : Entry). e.statement) (leaving rule))
  where
    x' : Extended
    x' = record x { described = Some d }

    again : (b : Bool) → is_parsed_again x ≡ b → KnownAt (known_under (name_of x.statement) (width_by (parsed_again b x.sql) d.columns)) at
    again true e = none
    again false e = k e

    runs : (goal : Goal) (keeping : Keeping) → KnownAt (widths_of (request_behind (behind_goal goal x' d keeping))) at
    runs (goals.Run how) keeping = bound_known x.filling (bound_for how x' d keeping) at (again (is_parsed_again x) refl) none
    runs goals.Prepare keeping = none

    closes : (o : Option ℕ) → KnownAt (widths_of (by_leaving x' d o)) at
    closes (Some statement) = none
    closes None = runs x.goal keepings.Puts

    by : (b : Bool) (o : Option ℕ) → KnownAt (widths_of (cond b (request_behind (behind_goal x.goal x' d keepings.Stays)) (by_leaving x' d o))) at
    by true o = runs x.goal keepings.Stays
    by false o = closes o

closed_known : (rule : Rule) (at : Place) (a : After) → KnownAt (widths_of (request_behind a)) at → KnownAt [] at → KnownAt (widths_of (asked_by rule (request_behind a))) at
closed_known rule at (afters.Run bound) k none = k
closed_known rule at (afters.Fill filling) k none = k
closed_known rule at (afters.Prepare prepared) k none = by prepared.columns
  where
    by : (o : Option (List PgColumn)) → KnownAt (widths_of (prepare_by rule (record prepared { declared = None }) o)) at
    by (Some columns) = none
    by None = tells (entry_at prepared.sql rule.cache.entries)
      where
        tells : (o : Option Entry) → KnownAt (widths_of (tell_or_describe rule (record prepared { declared = None }) o)) at
        tells (Some e) = none
        tells None = none

-- of what was described the columns are known that were made of it
known_columns : (at : Place) (name : List ℕ) (fields : List FieldDescription) → KnownAt ((name, length fields) ∷ []) at → KnownAt ((name, length (columns_of fields)) ∷ []) at
known_columns at name fields k = subst (λ (n : ℕ). KnownAt ((name, n) ∷ []) at) (sym (length_columns fields)) k

-- what a description that hands on has told is known where the next exchange begins
known_told : (rule : Rule) (start : StreamSeen) (at next : Place) (a c : ConnSeen) (x : Extended) (after : Request) (said : List FrontendMessage) (slice : List Frame) (items : List CallItem) → StandsAt start at a → StandsAt start next c → next.groups ≡ at.groups ++ groups_of (requests.Describe x) → heard next.frames ≡ heard at.frames ++ slice
    → EndsFine a.ledger (requests.Describe x) said slice items c.ledger (beats.HandsOn after) → KnownAt (widths_of (asked_by rule after)) next
known_told rule start at next a c x after said slice items st st' groups frames e =
    let told : told_by x e.0.reply ≡ after = same_Some (told_by x e.0.reply) after (next_is (requests.Describe x) e.0.reply e.0.status after e.1).1 in
    let known = described_known start at next a c x said slice items st st' groups frames e.0 in
    subst (λ (r : Request). KnownAt (widths_of (asked_by rule r)) next) told (told_known rule x (record { parameters = parameters_after [] e.0.reply; columns = Some (columns_of (described e.0.reply)) }) next (λ o. known_columns next (name_of x.statement) (described e.0.reply) known) (known_none start next c st'))

-- and what comes behind a close knows its statement
known_closed : (rule : Rule) (start : StreamSeen) (at next : Place) (a c : ConnSeen) (v : Eviction) (after : Request) (said : List FrontendMessage) (slice : List Frame) (items : List CallItem) → StandsAt start next c → Keeps next → IsAfter next.rule v.after
    → EndsFine a.ledger (requests.Evict v) said slice items c.ledger (beats.HandsOn after) → KnownAt (widths_of (asked_by rule after)) next
known_closed rule start at next a c v after said slice items st' k h e =
    let told : request_behind v.after ≡ after = same_Some (request_behind v.after) after (next_is (requests.Evict v) e.0.reply e.0.status after e.1).1 in
    subst (λ (r : Request). KnownAt (widths_of (asked_by rule r)) next) told (closed_known rule next v.after (after_known start next c v.after st' k h) (known_none start next c st'))

-- what comes behind a lookup knows the columns of a statement that has a name, and prepares any other once more
known_looked : (rule : Rule) (start : StreamSeen) (next : Place) (c : ConnSeen) (x : Extended) → StandsAt start next c → IsLooking x → ((d : Described) → x.described ≡ Some d → nat_eq x.statement 0 ≡ false → IsKeptAt next (entry_of x d)) → KnownAt (widths_of (asked_by rule (requests.Describe x))) next
known_looked rule start next c x st s h =
    let d = s.was.description in
    let same : record x { described = Some d } ≡ x = ap (λ (o : Option Described). record x { described = o }) (sym s.was.is) in
    subst (λ (y : Extended). KnownAt (widths_of (asked_by rule (requests.Describe y))) next) same (told_known rule x d next known (known_none start next c st))
  where
    named : (n : ℕ) → nat_eq n 0 ≡ false → 0 < n
    named zero e = absurd cc
    named (suc n) e = omega arith

    known : is_parsed_again x ≡ false → KnownAt (known_under (name_of x.statement) (option_map (λ (cs : List PgColumn). length cs) s.was.description.columns)) next
    known e =
        let has : nat_eq x.statement 0 ≡ false = sym (ap (λ (b : Bool). (b || is_some x.filling) && nat_eq x.statement 0) s.looked) ∙ e in
        subst (λ (o : Option (List PgColumn)). KnownAt (known_under (name_of x.statement) (option_map (λ (cs : List PgColumn). length cs) o)) next) (sym s.was.columns)
        (known_kept start next c (entry_of x s.was.description) st (named x.statement has) (h s.was.description s.was.is has))

-- and what isn't described yet knows nothing
known_undescribed : (rule : Rule) (start : StreamSeen) (next : Place) (c : ConnSeen) (x : Extended) → x.described ≡ None → StandsAt start next c → KnownAt (widths_of (asked_by rule (requests.Describe x))) next
known_undescribed rule start next c x e st = subst (λ (q : Request). KnownAt (widths_of q) next) (sym (undescribed_asks rule x e)) (known_none start next c st)

known_sought : (rule : Rule) (start : StreamSeen) (next : Place) (c : ConnSeen) (old : Rule) (x : Extended) (o : Option Described) → x.described ≡ o → StandsAt start next c → IsSought old x o → ((d : Described) → x.described ≡ Some d → nat_eq x.statement 0 ≡ false → IsKeptAt next (entry_of x d)) → KnownAt (widths_of (asked_by rule (requests.Describe x))) next
known_sought rule start next c old x None e st s h = known_undescribed rule start next c x e st
known_sought rule start next c old x (Some d) e st s h = known_looked rule start next c x st s h

-- and what is run behind a lookup knows the columns of its statement
runs_known : (start : StreamSeen) (at : Place) (a : ConnSeen) (bound : Bound) (o : Option (List ℕ)) → StandsAt start at a → RunsAt at bound o → KnownAt (known_under (name_of bound.statement) (width_by o bound.columns)) at
runs_known start at a bound (Some sql) st h = known_none start at a st
runs_known start at a bound None st (e, same, columns, positive, kept) =
    subst (λ (n : ℕ). KnownAt (known_under (name_of n) (option_map (λ (c : List PgColumn). length c) bound.columns)) at) (sym same)
    (subst (λ (o : Option (List PgColumn)). KnownAt (known_under (name_of e.statement) (option_map (λ (c : List PgColumn). length c) o)) at) (sym columns) (known_of start at a e st (positive, kept)))

-- what the exchange knows that is handed on
handed_known : (rule : Rule) (start : StreamSeen) (at next : Place) (a c : ConnSeen) (d : ℕ) (call : Call) (after : Request) (said : List FrontendMessage) (slice : List Frame) (items : List CallItem) → StandsAt start at a → StandsAt start next c → Keeps next → next.groups ≡ at.groups ++ groups_of (request_of d call) → heard next.frames ≡ heard at.frames ++ slice
    → ((v : Eviction) → call ≡ calls.Evict v → IsAfter next.rule v.after) → ((l : Lookup) → call ≡ calls.Look l → IsSought at.rule l.extended l.extended.described × ((t : Described) → l.extended.described ≡ Some t → nat_eq l.extended.statement 0 ≡ false → IsKeptAt next (entry_of l.extended t)))
    → ((f : Filling) → call ≡ calls.Fill f → RunsAt next f.bound f.bound.again)
    → EndsFine a.ledger (request_of d call) said slice items c.ledger (beats.HandsOn after) → KnownAt (widths_of (asked_by rule after)) next
handed_known rule start at next a c d call after said slice items st st' k groups frames evicts looks fills e =
    by (hands_by d call (hands_on_described (request_of d call) e.0.reply e.0.status after e.1))
  where
    by : HandsBy call → KnownAt (widths_of (asked_by rule after)) next
    by (inl (x, is)) =
        known_told rule start at next a c x after said slice items st st' (groups ∙ ap (λ (y : Call). at.groups ++ groups_of (request_of d y)) is) frames
        (subst (λ (y : Call). EndsFine a.ledger (request_of d y) said slice items c.ledger (beats.HandsOn after)) is e)
    by (inr (inl (v, is))) =
        known_closed rule start at next a c v after said slice items st' k (evicts v is)
        (subst (λ (y : Call). EndsFine a.ledger (request_of d y) said slice items c.ledger (beats.HandsOn after)) is e)
    by (inr (inr (inl (l, is)))) =
        let fine = subst (λ (y : Call). EndsFine a.ledger (request_of d y) said slice items c.ledger (beats.HandsOn after)) is e in
        let told : requests.Describe l.extended ≡ after = same_Some (requests.Describe l.extended) after (next_is (requests.Look l) fine.0.reply fine.0.status after fine.1).1 in
        let h = looks l is in
        subst (λ (r : Request). KnownAt (widths_of (asked_by rule r)) next) told (known_sought rule start next c at.rule l.extended l.extended.described refl st' h.0 h.1)
    by (inr (inr (inr (f, is)))) =
        let fine = subst (λ (y : Call). EndsFine a.ledger (request_of d y) said slice items c.ledger (beats.HandsOn after)) is e in
        let told : requests.Run (looked_behind f.bound) ≡ after = same_Some (requests.Run (looked_behind f.bound)) after (next_is (requests.Fill f) fine.0.reply fine.0.status after fine.1).1 in
        subst (λ (r : Request). KnownAt (widths_of (asked_by rule r)) next) told (runs_known start next c f.bound f.bound.again st' (fills f is))

-- a description that was told, once its columns tell what was looked up, and it is known what is asked within its arguments
abbrev readied : Learnt → ArgumentsSeen → Option (List ℕ) → Request → Request
readied l arguments filling (requests.Describe x) = requests.Describe (ready l arguments filling x)
readied l arguments filling told = told

after_readied : (l : Learnt) (arguments : ArgumentsSeen) (filling : Option (List ℕ)) (a : After) → readied l arguments filling (request_behind a) ≡ request_behind a
after_readied l arguments filling (afters.Run bound) = refl
after_readied l arguments filling (afters.Fill f) = refl
after_readied l arguments filling (afters.Prepare prepared) = refl

-- so it knows as much
ready_known : (learnt : Learnt) (arguments : ArgumentsSeen) (filling : Option (List ℕ)) (rule : Rule) (start : StreamSeen) (at next : Place) (a c : ConnSeen) (d : ℕ) (call : Call) (after : Request) (said : List FrontendMessage) (slice : List Frame) (items : List CallItem) → StandsAt start at a → StandsAt start next c → Keeps next → next.groups ≡ at.groups ++ groups_of (request_of d call) → heard next.frames ≡ heard at.frames ++ slice
    → ((v : Eviction) → call ≡ calls.Evict v → IsAfter next.rule v.after) → ((l : Lookup) → call ≡ calls.Look l → IsSought at.rule l.extended l.extended.described × ((t : Described) → l.extended.described ≡ Some t → nat_eq l.extended.statement 0 ≡ false → IsKeptAt next (entry_of l.extended t)))
    → ((f : Filling) → call ≡ calls.Fill f → RunsAt next f.bound f.bound.again)
    → EndsFine a.ledger (request_of d call) said slice items c.ledger (beats.HandsOn after) → KnownAt (widths_of (asked_by rule (readied learnt arguments filling after))) next
ready_known learnt arguments filling rule start at next a c d call after said slice items st st' k groups frames evicts looks fills e =
    by (hands_by d call (hands_on_described (request_of d call) e.0.reply e.0.status after e.1))
  where
    by : HandsBy call → KnownAt (widths_of (asked_by rule (readied learnt arguments filling after))) next
    by (inl (x, is)) =
        let fine = subst (λ (y : Call). EndsFine a.ledger (request_of d y) said slice items c.ledger (beats.HandsOn after)) is e in
        let told : told_by x fine.0.reply ≡ after = same_Some (told_by x fine.0.reply) after (next_is (requests.Describe x) fine.0.reply fine.0.status after fine.1).1 in
        let known = described_known start at next a c x said slice items st st' (groups ∙ ap (λ (y : Call). at.groups ++ groups_of (request_of d y)) is) frames fine.0 in
        subst (λ (r : Request). KnownAt (widths_of (asked_by rule (readied learnt arguments filling r))) next) told
        (told_known rule (record x { arguments = arguments; filling = filling }) (described_with learnt (record { parameters = parameters_after [] fine.0.reply; columns = Some (columns_of (described fine.0.reply)) })) next
        (λ o. subst (λ (w : Option ℕ). KnownAt (known_under (name_of x.statement) w) next) (sym (learnt_width learnt (Some (columns_of (described fine.0.reply))))) (known_columns next (name_of x.statement) (described fine.0.reply) known)) (known_none start next c st'))
    by (inr (inl (v, is))) =
        let fine = subst (λ (y : Call). EndsFine a.ledger (request_of d y) said slice items c.ledger (beats.HandsOn after)) is e in
        let told : request_behind v.after ≡ after = same_Some (request_behind v.after) after (next_is (requests.Evict v) fine.0.reply fine.0.status after fine.1).1 in
        subst (λ (r : Request). KnownAt (widths_of (asked_by rule r)) next) (sym (after_readied learnt arguments filling v.after) ∙ ap (readied learnt arguments filling) told) (closed_known rule next v.after (after_known start next c v.after st' k (evicts v is)) (known_none start next c st'))
    by (inr (inr (inl (l, is)))) =
        let fine = subst (λ (y : Call). EndsFine a.ledger (request_of d y) said slice items c.ledger (beats.HandsOn after)) is e in
        let told : requests.Describe l.extended ≡ after = same_Some (requests.Describe l.extended) after (next_is (requests.Look l) fine.0.reply fine.0.status after fine.1).1 in
        let h = looks l is in
        subst (λ (r : Request). KnownAt (widths_of (asked_by rule (readied learnt arguments filling r))) next) told (sought_known l.extended h.0 h.1)
      where
        sought_known : (x : Extended) → IsSought at.rule x x.described → ((t : Described) → x.described ≡ Some t → nat_eq x.statement 0 ≡ false → IsKeptAt next (entry_of x t)) → KnownAt (widths_of (asked_by rule (requests.Describe (ready learnt arguments filling x)))) next
        sought_known x s h = for x.described refl s
          where
            y : Extended
            y = ready learnt arguments filling x

            for : (o : Option Described) → x.described ≡ o → IsSought at.rule x o → KnownAt (widths_of (asked_by rule (requests.Describe y))) next
            for None e s = known_undescribed rule start next c y (ap (option_map (described_with learnt)) e) st'
            for (Some t) e s =
                known_looked rule start next c y st' (record { was = was_ready learnt arguments filling x s.was; looked = s.looked })
                (λ v is z. subst (λ (u : Described). IsKeptAt next (entry_of x u)) (same_Some (described_with learnt t) v (sym (ap (option_map (described_with learnt)) e) ∙ is)) (kept_learnt next x t learnt (h t e z)))
    by (inr (inr (inr (f, is)))) =
        let fine = subst (λ (y : Call). EndsFine a.ledger (request_of d y) said slice items c.ledger (beats.HandsOn after)) is e in
        let told : requests.Run (looked_behind f.bound) ≡ after = same_Some (requests.Run (looked_behind f.bound)) after (next_is (requests.Fill f) fine.0.reply fine.0.status after fine.1).1 in
        subst (λ (r : Request). KnownAt (widths_of (asked_by rule (readied learnt arguments filling r))) next) told (runs_known start next c f.bound f.bound.again st' (fills f is))

-- and the one that is asked next
pub known_next : (rule : Rule) (start : StreamSeen) (at next : Place) (a c : ConnSeen) (d : ℕ) (call : Call) (told asked : Request) (said : List FrontendMessage) (slice : List Frame) (items : List CallItem) → StandsAt start at a → StandsAt start next c → Keeps next → next.groups ≡ at.groups ++ groups_of (request_of d call) → heard next.frames ≡ heard at.frames ++ slice
    → ((v : Eviction) → call ≡ calls.Evict v → IsAfter next.rule v.after) → ((l : Lookup) → call ≡ calls.Look l → IsSought at.rule l.extended l.extended.described × ((t : Described) → l.extended.described ≡ Some t → nat_eq l.extended.statement 0 ≡ false → IsKeptAt next (entry_of l.extended t)))
    → ((f : Filling) → call ≡ calls.Fill f → RunsAt next f.bound f.bound.again)
    → EndsFine a.ledger (request_of d call) said slice items c.ledger (beats.HandsOn told) → LeadsTo told asked → KnownAt (widths_of (asked_by rule asked)) next
known_next rule start at next a c d call told asked said slice items st st' k groups frames evicts looks fills e (inl same) =
    subst (λ (r : Request). KnownAt (widths_of (asked_by rule r)) next) (sym same) (handed_known rule start at next a c d call told said slice items st st' k groups frames evicts looks fills e)
known_next rule start at next a c d call told asked said slice items st st' k groups frames evicts looks fills e (inr (inl l)) =
    subst (λ (r : Request). KnownAt (widths_of (asked_by rule r)) next) (sym l.asks) (known_none start next c st')
known_next rule start at next a c d call told asked said slice items st st' k groups frames evicts looks fills e (inr (inr (inr (inl r)))) =
    subst (λ (q : Request). KnownAt (widths_of (asked_by rule q)) next) (ap (readied r.learnt r.arguments r.filling) r.tells ∙ sym r.asks)
    (ready_known r.learnt r.arguments r.filling rule start at next a c d call told said slice items st st' k groups frames evicts looks fills e)
known_next rule start at next a c d call told asked said slice items st st' k groups frames evicts looks fills e (inr (inr (inr (inr (inl f))))) =
    subst (λ (r : Request). KnownAt (widths_of (asked_by rule r)) next) (sym f.asks) (known_none start next c st')
known_next rule start at next a c d call told asked said slice items st st' k groups frames evicts looks fills e (inr (inr (inr (inr (inr f))))) =
    subst (λ (r : Request). KnownAt (widths_of (asked_by rule r)) next) (sym f.asks)
    (subst (λ (r : Request). KnownAt (widths_of (asked_by rule r)) next) f.tells (handed_known rule start at next a c d call told said slice items st st' k groups frames evicts looks fills e))
known_next rule start at next a c d call told asked said slice items st st' k groups frames evicts looks fills e (inr (inr (inl f))) =
    subst (λ (r : Request). KnownAt (widths_of (asked_by rule r)) next) (sym f.asks) (known_undescribed rule start next c (numbered_by f.oids f.extended) f.undescribed st')

-- a close leaves the statement among those that are kept for which it came
pub closes_known : (at next : Place) (call : Call) (v : Eviction) (own : List Group) (response : List BackendMessage) (told asked : Request) → call ≡ calls.Evict v → ClosesNone at.rule v → handed_by call response ≡ Some told → LeadsTo told asked → next.rule ≡ rule_after at.rule call own (Some asked) (ends.Ok AnswersUnit) → IsAfter next.rule v.after
closes_known at next call v own response told asked is s handed looks e =
    let same : next.rule ≡ kept at.rule = e ∙ ap (λ (y : Call). rule_after at.rule y own (Some asked) (ends.Ok AnswersUnit)) is ∙ by looks in
    subst (λ (r : Rule). IsAfter r v.after) (sym same) s.after
  where
    behind : told ≡ request_behind v.after
    behind = sym (same_Some (request_behind v.after) told (sym (ap (λ (y : Call). handed_by y response) is) ∙ handed))

    by : LeadsTo told asked → held_by (kept at.rule) asked ≡ kept at.rule
    by (inl same) = ap (held_by (kept at.rule)) (same ∙ behind) ∙ held_after_close (kept at.rule) v.after
    by (inr (inl l)) = ap (held_by (kept at.rule)) l.asks
    by (inr (inr (inl f))) = ap (held_by (kept at.rule)) f.asks ∙ undescribed_held (kept at.rule) (numbered_by f.oids f.extended) f.undescribed
    by (inr (inr (inr (inl r)))) = absurd (after_else v.after r.extended (sym behind ∙ r.tells))
      where
        after_else : (a : After) (x : Extended) → request_behind a ≡ requests.Describe x → ⊥
        after_else (afters.Run bound) x e = cc
        after_else (afters.Fill filling) x e = cc
        after_else (afters.Prepare prepared) x e = cc
    by (inr (inr (inr (inr (inl f))))) = ap (held_by (kept at.rule)) f.asks
    by (inr (inr (inr (inr (inr f))))) = ap (held_by (kept at.rule)) f.asks

-- ---- what something is looked up for may be held

-- a named statement has a number
positive : (n : ℕ) → nat_eq n 0 ≡ false → 0 < n
positive zero e = absurd cc
positive (suc n) e = omega arith

-- what is held behind a description stands at the server
held_stands : (next : Place) (rule : Rule) (e : Entry) → Keeps next → next.rule ≡ holding e rule → IsKeptAt next e
held_stands next rule e k is = (subst (λ (r : Rule). AllByRecursion (IsKeptAt next) (option_to_list r.cache.held ++ r.cache.entries)) is k.kept).0

-- what is looked up behind it is for what stands there, or is prepared once more
bound_holds : (next : Place) (filling : Option (List ℕ)) (bound : Bound) → (IsSome filling → RunsAt next bound bound.again) → IsHeldFor next (exchange_for (request_behind (bound_by filling bound)))
bound_holds next None bound h = tt
bound_holds next (Some text) bound h = h refl

described_holds_so : (rule : Rule) (next : Place) (x : Extended) (d : Described) → d.columns ≡ Some (unwrap_or d.columns []) → Keeps next → next.rule ≡ cond (nat_eq x.statement 0) rule (holding (entry_of x d) rule) → IsHeldFor next (exchange_for (behind_description rule x (Some d)))
described_holds_so rule next x d columns k is = by (nat_eq x.statement 0) refl
  where
    again : (how : How) (keeping : Keeping) (b : Bool) → is_parsed_again x ≡ b → (b ≡ false → (0 < x.statement) × IsKeptAt next (entry_of x d)) → RunsAt next (bound_for how x d keeping) (parsed_again b x.sql)
    again how keeping true e h = tt
    again how keeping false e h = let s = h refl in (entry_of x d, refl, columns, s.0, s.1)

    runs : (goal : Goal) (keeping : Keeping) → (IsSome x.filling → is_parsed_again x ≡ false → (0 < x.statement) × IsKeptAt next (entry_of x d)) → IsHeldFor next (exchange_for (request_behind (behind_goal goal x d keeping)))
    runs (goals.Run how) keeping h = bound_holds next x.filling (bound_for how x d keeping) (λ some. again how keeping (is_parsed_again x) refl (h some))
    runs goals.Prepare keeping h = tt

    differs : true ≡ false → ⊥
    differs e = cc

    or_true : (b : Bool) → b || true ≡ true
    or_true true = refl
    or_true false = refl

    unnamed : nat_eq x.statement 0 ≡ true → IsSome x.filling → is_parsed_again x ≡ true
    unnamed n some = ap₂ (λ (f z : Bool). (x.is_looked_up || f) && z) some n ∙ ap (λ (b : Bool). b && true) (or_true x.is_looked_up)

    closes : (o : Option ℕ) → nat_eq x.statement 0 ≡ false → IsHeldFor next (exchange_for (by_leaving x d o))
    closes (Some number) n = tt
    closes None n = runs x.goal keepings.Puts (λ some none. (positive x.statement n, held_stands next rule (entry_of x d) k (is ∙ ap (λ (b : Bool). cond b rule (holding (entry_of x d) rule)) n)))

    by : (b : Bool) → nat_eq x.statement 0 ≡ b → IsHeldFor next (exchange_for (cond b (request_behind (behind_goal x.goal x d keepings.Stays)) (by_leaving x d (option_map (λ (e : Entry). e.statement) (leaving rule)))))
    by true n = runs x.goal keepings.Stays (λ some none. absurd (differs (sym (unnamed n some) ∙ none)))
    by false n = closes (option_map (λ (e : Entry). e.statement) (leaving rule)) n

-- what is asked of a description that was handed on
told_holds : (rule old : Rule) (next : Place) (x : Extended) (o : Option Described) → x.described ≡ o → IsToldFor old x o → Keeps next → next.rule ≡ held_behind rule x o → IsHeldFor next (exchange_for (behind_description rule x o))
told_holds rule old next x None e w k is = tt
told_holds rule old next x (Some d) e w k is = described_holds_so rule next x d (subst (λ (t : Described). t.columns ≡ Some (unwrap_or t.columns [])) (same_Some w.description d (sym w.is ∙ e)) w.columns) k is

-- what comes behind a close is of a statement that stands there
after_runs : (next : Place) (bound : Bound) (o : Option (List ℕ)) → Keeps next → IsKeptFirst next.rule bound → RunsAt next bound o
after_runs next bound (Some sql) k h = tt
after_runs next bound None k (e, others, is, same, columns) =
    let known = (subst (AllByRecursion (λ e. (0 < e.statement) × IsKeptAt next e)) is (each_known next k)).0 in
    (e, same, columns, known.0, known.1)

-- what was handed on, where it is run
abbrev ToldRuns : Place → Request → Type 0
ToldRuns next (requests.Run bound) = RunsAt next bound bound.again
ToldRuns next told = Unit {0}

told_runs : (next : Place) (call : Call) (reply : List BackendMessage) (told : Request) → handed_by call reply ≡ Some told → Keeps next → ((v : Eviction) → call ≡ calls.Evict v → IsAfter next.rule v.after) → ((f : Filling) → call ≡ calls.Fill f → RunsAt next f.bound f.bound.again) → ToldRuns next told
told_runs next call reply told e k evicts fills = by call e evicts fills
  where
    after : (a : After) → IsAfter next.rule a → ToldRuns next (request_behind a)
    after (afters.Run bound) h = after_runs next bound bound.again k h
    after (afters.Fill filling) h = tt
    after (afters.Prepare prepared) h = tt

    by : (c : Call) → handed_by c reply ≡ Some told → ((v : Eviction) → c ≡ calls.Evict v → IsAfter next.rule v.after) → ((f : Filling) → c ≡ calls.Fill f → RunsAt next f.bound f.bound.again) → ToldRuns next told
    by (calls.Describe x) e v f = subst (ToldRuns next) (same_Some (told_by x reply) told e) tt
    by (calls.Evict v) e evicts f = subst (ToldRuns next) (same_Some (request_behind v.after) told e) (after v.after (evicts v refl))
    by (calls.Look l) e v f = subst (ToldRuns next) (same_Some (requests.Describe l.extended) told e) tt
    by (calls.Fill f) e v fills = subst (ToldRuns next) (same_Some (requests.Run (looked_behind f.bound)) told e) (fills f refl)
    by _ e v f = absurd cc

-- what was handed on is no lookup but one for what stands there
abbrev ToldFills : Place → Request → Type 0
ToldFills next (requests.Look lookup) = ⊥
ToldFills next (requests.Fill f) = RunsAt next f.bound f.bound.again
ToldFills next told = Unit {0}

-- what is asked of what was handed on
asked_holds : (rule old : Rule) (next : Place) (call : Call) (reply : List BackendMessage) (told : Request) → handed_by call reply ≡ Some told → IsSound old call → Keeps next → next.rule ≡ held_by rule told → ((v : Eviction) → call ≡ calls.Evict v → IsAfter next.rule v.after) → IsHeldFor next (exchange_for (asked_by rule told))
asked_holds rule old next call reply told e s k is evicts = by told (told_whole old call reply told e s) is (after_holds_so call e evicts)
  where
    after : (a : After) → IsAfter next.rule a → ToldFills next (request_behind a)
    after (afters.Run bound) h = tt
    after (afters.Fill filling) h = after_runs next filling.bound filling.bound.again k h
    after (afters.Prepare prepared) h = tt

    after_holds_so : (c : Call) → handed_by c reply ≡ Some told → ((v : Eviction) → c ≡ calls.Evict v → IsAfter next.rule v.after) → ToldFills next told
    after_holds_so (calls.Describe x) e v = subst (ToldFills next) (same_Some (told_by x reply) told e) tt
    after_holds_so (calls.Evict v) e evicts = subst (ToldFills next) (same_Some (request_behind v.after) told e) (after v.after (evicts v refl))
    after_holds_so (calls.Look l) e v = subst (ToldFills next) (same_Some (requests.Describe l.extended) told e) tt
    after_holds_so (calls.Fill f) e v = subst (ToldFills next) (same_Some (requests.Run (looked_behind f.bound)) told e) tt
    after_holds_so _ e v = absurd cc

    tells : (p : Prepared) (o : Option Entry) → IsHeldFor next (exchange_for (tell_or_describe rule p o))
    tells p (Some e) = tt
    tells p None = tt

    prepares : (p : Prepared) (o : Option (List PgColumn)) → IsHeldFor next (exchange_for (prepare_by rule p o))
    prepares p (Some columns) = tt
    prepares p None = tells p (entry_at p.sql rule.cache.entries)

    queries : (how : How) (query : QueryText) (o : Option ArgumentsSeen) (r : Request) → IsHeldFor next (exchange_for r) → IsHeldFor next (exchange_for (query_by rule how query o r))
    queries how query None r h = h
    queries how query (Some arguments) r h = runs (entry_at query.sql rule.cache.entries)
      where
        runs : (o : Option Entry) → IsHeldFor next (exchange_for (run_or_describe rule how query.sql arguments query.persistent o))
        runs (Some e) = tt
        runs None = tt

    by : (r : Request) → IsToldWhole old r → next.rule ≡ held_by rule r → ToldFills next r → IsHeldFor next (exchange_for (asked_by rule r))
    by (requests.Describe x) w is f = told_holds rule old next x x.described refl w k is
    by (requests.Fill f) w is h = h
    by (requests.Look l) w is h = absurd h
    by (requests.Prepare p) w is f = prepares p p.columns
    by (requests.Execute query) w is f = queries hows.Execute query query.arguments (requests.Execute query) tt
    by (requests.ExecuteMany query) w is f = queries hows.ExecuteMany query query.arguments (requests.ExecuteMany query) tt
    by (requests.Fetch query) w is f = queries hows.Fetch query query.arguments (requests.Fetch query) tt
    by (requests.FetchMany query) w is f = queries hows.FetchMany query query.arguments (requests.FetchMany query) tt
    by (requests.FetchAll query) w is f = queries hows.FetchAll query query.arguments (requests.FetchAll query) tt
    by (requests.FetchOptional query) w is f = queries hows.FetchOptional query query.arguments (requests.FetchOptional query) tt
    by (requests.FetchOne query) w is f = queries hows.FetchOne query query.arguments (requests.FetchOne query) tt
    by _ w is f = tt

pub next_holds : (rule old : Rule) (next : Place) (call : Call) (reply : List BackendMessage) (told asked : Request) → handed_by call reply ≡ Some told → LeadsTo told asked → IsSound old call → Keeps next → next.rule ≡ held_by rule asked
    → ((v : Eviction) → call ≡ calls.Evict v → IsAfter next.rule v.after) → ((f : Filling) → call ≡ calls.Fill f → RunsAt next f.bound f.bound.again) → (IsLooked told asked → CanHoldTold next next.rule told) → IsHeldFor next (exchange_for (asked_by rule asked))
next_holds rule old next call reply told asked handed (inl same) s k is evicts fills h =
    subst (λ (r : Request). IsHeldFor next (exchange_for (asked_by rule r))) (sym same) (asked_holds rule old next call reply told handed s k (is ∙ ap (held_by rule) same) evicts)
next_holds rule old next call reply told asked handed (inr (inr (inl f))) s k is evicts fills h =
    subst (λ (r : Request). IsHeldFor next (exchange_for (asked_by rule r))) (sym f.asks) (subst (λ (r : Request). IsHeldFor next (exchange_for r)) (sym (undescribed_asks rule (numbered_by f.oids f.extended) f.undescribed)) tt)
next_holds rule old next call reply told asked handed (inr (inr (inr (inl r)))) s k is evicts fills h =
    let y : Extended = ready r.learnt r.arguments r.filling r.extended in
    let d : Described = described_with r.learnt r.description in
    let tells : y.described ≡ Some d = ap (option_map (described_with r.learnt)) r.described in
    let w : WasDescribed r.extended = subst (λ (o : Option Described). IsToldFor old r.extended o) r.described (subst (IsToldWhole old) r.tells (told_whole old call reply told handed s)) in
    let so : next.rule ≡ held_by rule (requests.Describe y) = is ∙ ap (held_by rule) r.asks in
    subst (λ (q : Request). IsHeldFor next (exchange_for (asked_by rule q))) (sym r.asks)
    (subst (λ (o : Option Described). IsHeldFor next (exchange_for (behind_description rule y o))) (sym tells)
    (told_holds rule old next y (Some d) tells (was_ready r.learnt r.arguments r.filling r.extended w) k (so ∙ ap (λ (o : Option Described). held_behind rule y o) tells)))
next_holds rule old next call reply told asked handed (inr (inr (inr (inr (inl f))))) s k is evicts fills h =
    let runs : RunsAt next f.bound f.bound.again = subst (ToldRuns next) f.tells (told_runs next call reply told handed k evicts fills) in
    subst (λ (r : Request). IsHeldFor next (exchange_for (asked_by rule r))) (sym f.asks) (runs_so f.bound.again runs)
  where
    runs_so : (o : Option (List ℕ)) → RunsAt next f.bound o → RunsAt next (record f.bound { is_looked_up = f.looked; keeping = f.keeping }) o
    runs_so (Some sql) r = tt
    runs_so None r = r
next_holds rule old next call reply told asked handed (inr (inr (inr (inr (inr f))))) s k is evicts fills h = subst (λ (r : Request). IsHeldFor next (exchange_for (asked_by rule r))) (sym f.asks) tt
next_holds rule old next call reply told asked handed (inr (inl l)) s k is evicts fills h =
    let held : CanHold next next.rule l.extended = subst (CanHoldTold next next.rule) l.tells (h l) in
    subst (λ (r : Request). IsHeldFor next (exchange_for (asked_by rule r))) (sym l.asks) (λ d is e. held d is e)

-- the first exchange runs a statement that stands there, where it runs one
abbrev RunsFirst : Place → Call → Type 0
RunsFirst at (calls.Run bound) = RunsAt at bound bound.again
RunsFirst at call = Unit {0}

run_first : (at : Place) (how : How) (sql : List ℕ) (arguments : ArgumentsSeen) (persistent : Bool) → Keeps at → (o : Option Entry) → entry_at sql at.rule.cache.entries ≡ o → RunsFirst at (exchange_for (run_or_describe at.rule how sql arguments persistent o))
run_first at how sql arguments persistent k None e = tt
run_first at how sql arguments persistent k (Some entry) e =
    let known = found_has (λ e. (0 < e.statement) × IsKeptAt at e) (λ e. bytes_eq e.sql sql) at.rule.cache.entries entry (each_known at k) e in
    (entry, refl, refl, known.0, known.1)

as_first : (at : Place) (how : How) (query : QueryText) (call : Call) → Keeps at → RunsFirst at call → (o : Option ArgumentsSeen) → RunsFirst at (first_as at.rule how query o call)
as_first at how query call k h None = h
as_first at how query call k h (Some arguments) = run_first at how query.sql arguments query.persistent k (entry_at query.sql at.rule.cache.entries) refl

first_runs_so : (at : Place) (call : Call) → Keeps at → RunsFirst at (first_call at.rule call)
first_runs_so at (calls.Execute query) k = as_first at hows.Execute query (calls.Execute query) k tt query.arguments
first_runs_so at (calls.ExecuteMany query) k = as_first at hows.ExecuteMany query (calls.ExecuteMany query) k tt query.arguments
first_runs_so at (calls.Fetch query) k = as_first at hows.Fetch query (calls.Fetch query) k tt query.arguments
first_runs_so at (calls.FetchMany query) k = as_first at hows.FetchMany query (calls.FetchMany query) k tt query.arguments
first_runs_so at (calls.FetchAll query) k = as_first at hows.FetchAll query (calls.FetchAll query) k tt query.arguments
first_runs_so at (calls.FetchOptional query) k = as_first at hows.FetchOptional query (calls.FetchOptional query) k tt query.arguments
first_runs_so at (calls.FetchOne query) k = as_first at hows.FetchOne query (calls.FetchOne query) k tt query.arguments
first_runs_so at (calls.Prepare p) k = by (entry_at p.sql at.rule.cache.entries)
  where
    by : (o : Option Entry) → RunsFirst at (exchange_for (tell_or_describe at.rule (record { sql = p.sql; parameters = []; columns = None; keeping = keepings.Stays; declared = Some p.types }) o))
    by (Some e) = tt
    by None = tt
first_runs_so at calls.Clear k = by (nat_eq (length at.rule.cache.entries) 0)
  where
    by : (b : Bool) → RunsFirst at (exchange_for (asked_by at.rule (cond b requests.Flush (requests.Clear []))))
    by true = tt
    by false = tt
first_runs_so at _ k = tt

pub first_runs : (at : Place) (call : Call) (bound : Bound) → Keeps at → first_call at.rule call ≡ calls.Run bound → RunsAt at bound bound.again
first_runs at call bound k is = subst (RunsFirst at) is (first_runs_so at call k)

first_as_holds : (at : Place) (rule : Rule) (how : How) (query : QueryText) (o : Option ArgumentsSeen) (call : Call) → IsHeldFor at call → IsHeldFor at (first_as rule how query o call)
first_as_holds at rule how query None call h = h
first_as_holds at rule how query (Some arguments) call h = by (entry_at query.sql rule.cache.entries)
  where
    by : (o : Option Entry) → IsHeldFor at (exchange_for (run_or_describe rule how query.sql arguments query.persistent o))
    by (Some e) = tt
    by None = tt

-- the statement is still kept behind a lookup for it
pub looked_kept : (at next : Place) (call : Call) (l : Lookup) (d : ℕ) (slice : List Frame) → call ≡ calls.Look l → IsHeldFor at call → next.groups ≡ at.groups ++ groups_of (request_of d call) → heard next.frames ≡ heard at.frames ++ slice
    → (t : Described) → l.extended.described ≡ Some t → nat_eq l.extended.statement 0 ≡ false → IsKeptAt next (entry_of l.extended t)
looked_kept at next call l d slice is h groups frames t described e =
    (looked_holds at next l.extended (groups_of (requests.Look l)) slice (subst (IsHeldFor at) is h) (λ n. spares_asked n d (calls.Look l) (λ z. z)) (groups ∙ ap (λ (y : Call). at.groups ++ groups_of (request_of d y)) is) frames t described e).0

-- and so is the one for whose arguments something is looked up
pub filled_kept : (at next : Place) (call : Call) (f : Filling) (d : ℕ) (slice : List Frame) → call ≡ calls.Fill f → IsHeldFor at call → next.groups ≡ at.groups ++ groups_of (request_of d call) → heard next.frames ≡ heard at.frames ++ slice → RunsAt next f.bound f.bound.again
filled_kept at next call f d slice is h groups frames =
    runs_holds at next f.bound f.bound.again (groups_of (requests.Fill f)) slice (subst (IsHeldFor at) is h) (λ n. spares_asked n d (calls.Fill f) (λ z. z)) (groups ∙ ap (λ (y : Call). at.groups ++ groups_of (request_of d y)) is) frames

-- the first exchange looks nothing up
pub first_holds : (at : Place) (rule : Rule) (call : Call) → IsHeldFor at (first_call rule call)
first_holds at rule (calls.Execute query) = first_as_holds at rule hows.Execute query query.arguments (calls.Execute query) tt
first_holds at rule (calls.ExecuteMany query) = first_as_holds at rule hows.ExecuteMany query query.arguments (calls.ExecuteMany query) tt
first_holds at rule (calls.Fetch query) = first_as_holds at rule hows.Fetch query query.arguments (calls.Fetch query) tt
first_holds at rule (calls.FetchMany query) = first_as_holds at rule hows.FetchMany query query.arguments (calls.FetchMany query) tt
first_holds at rule (calls.FetchAll query) = first_as_holds at rule hows.FetchAll query query.arguments (calls.FetchAll query) tt
first_holds at rule (calls.FetchOptional query) = first_as_holds at rule hows.FetchOptional query query.arguments (calls.FetchOptional query) tt
first_holds at rule (calls.FetchOne query) = first_as_holds at rule hows.FetchOne query query.arguments (calls.FetchOne query) tt
first_holds at rule (calls.Prepare p) = by (entry_at p.sql rule.cache.entries)
  where
    by : (o : Option Entry) → IsHeldFor at (exchange_for (tell_or_describe rule (record { sql = p.sql; parameters = []; columns = None; keeping = keepings.Stays; declared = Some p.types }) o))
    by (Some e) = tt
    by None = tt
first_holds at rule calls.Clear = by (nat_eq (length rule.cache.entries) 0)
  where
    by : (b : Bool) → IsHeldFor at (exchange_for (asked_by rule (cond b requests.Flush (requests.Clear []))))
    by true = tt
    by false = tt
first_holds at rule _ = tt
