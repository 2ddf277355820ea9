-- What a call shows and answers fits its kind.
use Rattle.std.proofs.Common.{◌≡◌, Bool, true, false, cond, List, [], ◌∷◌, ◌++◌, filter, refl, ap, sym, subst, ◌∙◌, Result, Ok, Option, Some, None}
use Rattle.pg_wire.specs.declared.status.TransactionStatus.TheVariants as statuses
use Rattle.pg_wire.specs.declared.status.TransactionStatus.{TransactionStatus}
use Rattle.pg_wire.specs.declared.error.Error.{Error}
use Rattle.pg_wire.specs.Frame.{Frame}
use Rattle.pg_wire.specs.Frontend.{FrontendMessage}
use Rattle.pg_wire.specs.Backend.{BackendMessage}
use Rattle.pg_rows.specs.Rows.{RowSeen}
use Rattle.pg_call.specs.declared.kind.How.TheVariants as hows
use Rattle.pg_call.specs.declared.kind.Kind.{Kind}
use Rattle.pg_call.specs.declared.kind.Kind.TheVariants as kinds
use Rattle.pg_call.specs.declared.request.Request.{Request}
use Rattle.pg_call.specs.declared.request.Request.TheVariants as requests
use Rattle.pg_call.specs.declared.answer.CallItem.{CallItem}
use Rattle.pg_call.specs.declared.answer.CallAnswer.{CallAnswer}
use Rattle.pg_call.specs.declared.answer.CallAnswer.TheVariants as answers
use Rattle.pg_call.specs.declared.tally.Tally.{Tally}
use Rattle.pg_call.specs.declared.ledger.Ledger.{Ledger}
use Rattle.pg_call.specs.declared.calling.Call.{Call}
use Rattle.pg_call.specs.declared.calling.Call.TheVariants as calls
use Rattle.pg_call.specs.declared.calling.Beat.TheVariants as beats
use Rattle.pg_call.specs.declared.statement.Goal.{Goal}
use Rattle.pg_call.specs.declared.statement.Goal.TheVariants as goals
use Rattle.pg_call.specs.declared.after.After.{After}
use Rattle.pg_call.specs.declared.after.After.TheVariants as afters
use Rattle.pg_call.specs.Requests.{kind_of, main_kind, goal_kind, after_kind, request_behind}
use Rattle.pg_call.specs.Items.{answer_to, own_items, tally_of, yields, finished, one_row, begun}
use Rattle.pg_call.specs.Answers.{AnswerFits}
use Rattle.pg_call.specs.Calls.{CallIs, answer_by, answer_or_next, next_of, own_answer}

-- the last of the items that pass has passed
all_pass : (t : CallItem → Bool) (xs zs : List CallItem) (y : CallItem) → xs ++ y ∷ [] ≡ filter t zs → t y ≡ true
all_pass t xs [] y e = absurd (not_nil xs e)
  where
    not_nil : (xs : List CallItem) → xs ++ y ∷ [] ≡ [] → ⊥
    not_nil [] k = absurd cc
    not_nil (x ∷ xs) k = absurd cc
all_pass t xs (z ∷ zs) y e = by (t z) refl xs e (λ ws k. all_pass t ws zs y k)
  where
    last_is : (y z : CallItem) (rest : List CallItem) → y ∷ [] ≡ z ∷ rest → y ≡ z
    last_is y z rest k = cc

    tail_is : (x y z : CallItem) (ws rest : List CallItem) → x ∷ (ws ++ y ∷ []) ≡ z ∷ rest → ws ++ y ∷ [] ≡ rest
    tail_is x y z ws rest k = cc

    by : (b : Bool) → t z ≡ b → (xs : List CallItem) → xs ++ y ∷ [] ≡ cond b (z ∷ filter t zs) (filter t zs) → ((ws : List CallItem) → ws ++ y ∷ [] ≡ filter t zs → t y ≡ true) → t y ≡ true
    by true h [] k f = ap t (last_is y z (filter t zs) k) ∙ h
    by true h (x ∷ ws) k f = f ws (tail_is x y z ws (filter t zs) k)
    by false h ws k f = f ws k

not_empty : (xs : List CallItem) (y : CallItem) → xs ++ y ∷ [] ≡ [] → ⊥
not_empty [] y e = absurd cc
not_empty (x ∷ xs) y e = absurd cc

-- an item that a running call has shown is one that it shows
pub shown_fits : (start : Ledger) (r : Request) (said : List FrontendMessage) (hs : List Frame) (items : List CallItem) (item : CallItem) (ledger : Ledger) (call : Call) → CallIs start r said hs (items ++ item ∷ []) ledger call → yields (kind_of r) item ≡ true
shown_fits start r said hs items item ledger (calls.Own reply) i = subst (λ (k : Kind). yields k item ≡ true) i.2.kind_is (all_pass (yields reply.kind) items _ item i.2.items_are)
shown_fits start r said hs items item ledger (calls.Waiting w) i = absurd (not_empty items item i.3.items_are)
shown_fits start r said hs items item ledger (calls.Asked asked) i = absurd (not_empty items item i.4)
shown_fits start r said hs items item ledger calls.Closing i = absurd (not_empty items item i.2.draining.items_are)
shown_fits start r said hs items item ledger calls.Idle i = absurd i

one_fits : (o : Option RowSeen) (answer : CallAnswer) → one_row o ≡ Ok answer → AnswerFits (kinds.Run hows.FetchOne) answer
one_fits None answer e = absurd cc
one_fits (Some row) answer e =
    let same : answers.OneRow (Some row) ≡ answer = cc in
    subst (AnswerFits (kinds.Run hows.FetchOne)) same tt

the_end : (a b : Result CallAnswer Error) → beats.Ends a ≡ beats.Ends b → a ≡ b
the_end a b e = cc

pub the_ok : (a b : CallAnswer) → ◌≡◌ {A = Result CallAnswer Error} (Ok a) (Ok b) → a ≡ b
the_ok a b e = cc

-- an answer is of its kind
begun_fits : (status : TransactionStatus) (answer : CallAnswer) → begun status ≡ Ok answer → AnswerFits kinds.Begin answer
begun_fits statuses.Transaction answer e = subst (AnswerFits kinds.Begin) (the_ok _ _ e) tt
begun_fits statuses.Idle answer e = absurd cc
begun_fits statuses.Error answer e = absurd cc

finished_fits : (kind : Kind) (t : Tally) (status : TransactionStatus) (answer : CallAnswer) → (kind ≡ kinds.Describe → ⊥) → (kind ≡ kinds.Prepare → ⊥) → finished kind t status ≡ Ok answer → AnswerFits kind answer
finished_fits (kinds.Run hows.Execute) t status answer n m e = subst (AnswerFits (kinds.Run hows.Execute)) (the_ok _ _ e) tt
finished_fits (kinds.Run hows.ExecuteMany) t status answer n m e = subst (AnswerFits (kinds.Run hows.ExecuteMany)) (the_ok _ _ e) tt
finished_fits (kinds.Run hows.Fetch) t status answer n m e = subst (AnswerFits (kinds.Run hows.Fetch)) (the_ok _ _ e) tt
finished_fits (kinds.Run hows.FetchMany) t status answer n m e = subst (AnswerFits (kinds.Run hows.FetchMany)) (the_ok _ _ e) tt
finished_fits (kinds.Run hows.FetchAll) t status answer n m e = subst (AnswerFits (kinds.Run hows.FetchAll)) (the_ok _ _ e) tt
finished_fits (kinds.Run hows.FetchOptional) t status answer n m e = subst (AnswerFits (kinds.Run hows.FetchOptional)) (the_ok _ _ e) tt
finished_fits (kinds.Run hows.FetchOne) t status answer n m e = one_fits t.first answer e
finished_fits kinds.Begin t status answer n m e = begun_fits status answer e
finished_fits kinds.Commit t status answer n m e = subst (AnswerFits kinds.Commit) (the_ok _ _ e) tt
finished_fits kinds.Rollback t status answer n m e = subst (AnswerFits kinds.Rollback) (the_ok _ _ e) tt
finished_fits kinds.CopyOut t status answer n m e = subst (AnswerFits kinds.CopyOut) (the_ok _ _ e) tt
finished_fits kinds.CopyIn t status answer n m e = subst (AnswerFits kinds.CopyIn) (the_ok _ _ e) tt
finished_fits kinds.Ping t status answer n m e = subst (AnswerFits kinds.Ping) (the_ok _ _ e) tt
finished_fits kinds.Flush t status answer n m e = subst (AnswerFits kinds.Flush) (the_ok _ _ e) tt
finished_fits kinds.Close t status answer n m e = subst (AnswerFits kinds.Close) (the_ok _ _ e) tt
finished_fits kinds.Clear t status answer n m e = subst (AnswerFits kinds.Clear) (the_ok _ _ e) tt
finished_fits kinds.Describe t status answer n m e = absurd (n refl)
finished_fits kinds.Prepare t status answer n m e = absurd (m refl)

no_description : (r : Request) (reply : List BackendMessage) → next_of r reply ≡ None → kind_of r ≡ kinds.Describe → ⊥
no_description (requests.Describe extended) reply n k = cc
no_description (requests.Look lookup) reply n k = cc
no_description (requests.Fill filling) reply n k = cc
no_description (requests.Evict eviction) reply n k = cc
no_description (requests.Run bound) reply n k = cc
no_description _ reply n k = cc

own_fits : (r : Request) (t : Tally) (status : TransactionStatus) (answer : CallAnswer) → (kind_of r ≡ kinds.Describe → ⊥) → own_answer r (finished (kind_of r) t status) ≡ Ok answer → AnswerFits (kind_of r) answer
own_fits (requests.Prepare prepared) t status answer n e = subst (AnswerFits kinds.Prepare) (the_ok _ _ e) tt
own_fits (requests.Run bound) t status answer n e = finished_fits (kinds.Run bound.how) t status answer n (λ k. cc) e
own_fits (requests.Describe extended) t status answer n e = absurd (n refl)
own_fits (requests.Look lookup) t status answer n e = absurd (n refl)
own_fits (requests.Fill filling) t status answer n e = absurd (n refl)
own_fits (requests.Evict eviction) t status answer n e = absurd (n refl)
own_fits (requests.Execute query) t status answer n e = finished_fits (kinds.Run hows.Execute) t status answer n (λ k. cc) e
own_fits (requests.ExecuteMany query) t status answer n e = finished_fits (kinds.Run hows.ExecuteMany) t status answer n (λ k. cc) e
own_fits (requests.Fetch query) t status answer n e = finished_fits (kinds.Run hows.Fetch) t status answer n (λ k. cc) e
own_fits (requests.FetchMany query) t status answer n e = finished_fits (kinds.Run hows.FetchMany) t status answer n (λ k. cc) e
own_fits (requests.FetchAll query) t status answer n e = finished_fits (kinds.Run hows.FetchAll) t status answer n (λ k. cc) e
own_fits (requests.FetchOptional query) t status answer n e = finished_fits (kinds.Run hows.FetchOptional) t status answer n (λ k. cc) e
own_fits (requests.FetchOne query) t status answer n e = finished_fits (kinds.Run hows.FetchOne) t status answer n (λ k. cc) e
own_fits (requests.Begin depth) t status answer n e = finished_fits kinds.Begin t status answer n (λ k. cc) e
own_fits (requests.BeginWith query) t status answer n e = finished_fits kinds.Begin t status answer n (λ k. cc) e
own_fits (requests.CopyOut query) t status answer n e = finished_fits kinds.CopyOut t status answer n (λ k. cc) e
own_fits (requests.CopyIn feed) t status answer n e = finished_fits kinds.CopyIn t status answer n (λ k. cc) e
own_fits (requests.Commit left) t status answer n e = finished_fits kinds.Commit t status answer n (λ k. cc) e
own_fits (requests.Rollback left) t status answer n e = finished_fits kinds.Rollback t status answer n (λ k. cc) e
own_fits (requests.Clear statements) t status answer n e = finished_fits kinds.Clear t status answer n (λ k. cc) e
own_fits requests.Ping t status answer n e = finished_fits kinds.Ping t status answer n (λ k. cc) e
own_fits requests.Flush t status answer n e = finished_fits kinds.Flush t status answer n (λ k. cc) e
own_fits requests.Close t status answer n e = finished_fits kinds.Close t status answer n (λ k. cc) e

pub answers_fit : (r : Request) (reply : List BackendMessage) (status : TransactionStatus) (answer : CallAnswer) → answer_by r reply status ≡ beats.Ends (Ok answer) → AnswerFits (kind_of r) answer
answers_fit r reply status answer e = by r (next_of r reply) refl e
  where
    by : (r : Request) (o : Option Request) → next_of r reply ≡ o → answer_or_next o (own_answer r (answer_to (kind_of r) (own_items r reply) status)) ≡ beats.Ends (Ok answer) → AnswerFits (kind_of r) answer
    by r None k e = own_fits r (tally_of (kind_of r) (own_items r reply)) status answer (no_description r reply k) (the_end _ _ e)
    by r (Some next) k e = absurd cc

-- ---- the exchanges of a call

-- only a description hands on what is asked next
pub hands_on_described : (r : Request) (reply : List BackendMessage) (status : TransactionStatus) (next : Request) → answer_by r reply status ≡ beats.HandsOn next → kind_of r ≡ kinds.Describe
hands_on_described (requests.Describe x) reply status next e = refl
hands_on_described (requests.Look lookup) reply status next e = refl
hands_on_described (requests.Fill filling) reply status next e = refl
hands_on_described (requests.Evict eviction) reply status next e = refl
hands_on_described (requests.Run bound) reply status next e = absurd cc
hands_on_described _ reply status next e = absurd cc

the_next : (x y : Request) → beats.HandsOn x ≡ beats.HandsOn y → x ≡ y
the_next x y e = cc

behind_kind : (after : After) → main_kind (request_behind after) ≡ after_kind after
behind_kind (afters.Run bound) = refl
behind_kind (afters.Fill filling) = refl
behind_kind (afters.Prepare prepared) = refl

-- what is handed on is of the call's kind, and is what was to be asked next
pub next_is : (r : Request) (reply : List BackendMessage) (status : TransactionStatus) (next : Request) → answer_by r reply status ≡ beats.HandsOn next → (main_kind next ≡ main_kind r) × (next_of r reply ≡ Some next)
next_is (requests.Describe x) reply status next e =
    let is = the_next _ next e in
    (ap (λ (n : Request). main_kind n) (sym is), ap (λ (n : Request). Some n) is)
next_is (requests.Look lookup) reply status next e =
    let is = the_next _ next e in
    (ap (λ (n : Request). main_kind n) (sym is), ap (λ (n : Request). Some n) is)
next_is (requests.Fill filling) reply status next e =
    let is = the_next _ next e in
    (ap (λ (n : Request). main_kind n) (sym is), ap (λ (n : Request). Some n) is)
next_is (requests.Evict eviction) reply status next e =
    let is = the_next _ next e in
    (ap (λ (n : Request). main_kind n) (sym is) ∙ behind_kind eviction.after, ap (λ (n : Request). Some n) is)
next_is (requests.Run bound) reply status next e = absurd cc
next_is _ reply status next e = absurd cc

-- what an exchange shows is of the call's kind, and so is what it answers
pub shows_main : (r : Request) (item : CallItem) → yields (kind_of r) item ≡ true → yields (main_kind r) item ≡ true
shows_main (requests.Describe x) item e = absurd cc
shows_main (requests.Look lookup) item e = absurd cc
shows_main (requests.Fill filling) item e = absurd cc
shows_main (requests.Evict eviction) item e = absurd cc
shows_main _ item e = e

goal_describes_none : (goal : Goal) → goal_kind goal ≡ kinds.Describe → ⊥
goal_describes_none (goals.Run how) e = cc
goal_describes_none goals.Prepare e = cc

after_describes_none : (after : After) → after_kind after ≡ kinds.Describe → ⊥
after_describes_none (afters.Run bound) e = cc
after_describes_none (afters.Fill filling) e = cc
after_describes_none (afters.Prepare prepared) e = cc

-- no call is a description as a whole
pub main_describes_none : (r : Request) → main_kind r ≡ kinds.Describe → ⊥
main_describes_none (requests.Describe x) e = goal_describes_none x.goal e
main_describes_none (requests.Look lookup) e = goal_describes_none lookup.extended.goal e
main_describes_none (requests.Fill filling) e = cc
main_describes_none (requests.Evict eviction) e = after_describes_none eviction.after e
main_describes_none (requests.Run bound) e = cc
main_describes_none _ e = cc

-- an exchange that isn't a description is its call's
pub main_alone : (r : Request) → (kind_of r ≡ kinds.Describe → ⊥) → main_kind r ≡ kind_of r
main_alone (requests.Describe x) n = absurd (n refl)
main_alone (requests.Look lookup) n = absurd (n refl)
main_alone (requests.Fill filling) n = absurd (n refl)
main_alone (requests.Evict eviction) n = absurd (n refl)
main_alone _ n = refl

-- a description answers nothing: it hands on
describes_none : (answer : CallAnswer) → AnswerFits kinds.Describe answer → ⊥
describes_none answer f = f

pub answers_main : (r : Request) (reply : List BackendMessage) (status : TransactionStatus) (answer : CallAnswer) → answer_by r reply status ≡ beats.Ends (Ok answer) → AnswerFits (main_kind r) answer
answers_main r reply status answer e =
    let fits = answers_fit r reply status answer e in
    subst (λ (k : Kind). AnswerFits k answer) (sym (main_alone r (λ d. describes_none answer (subst (λ (k : Kind). AnswerFits k answer) d fits)))) fits
