-- Behind an error of the extended query the server skips, and says nothing, up to the next Sync.
use Rattle.pg_wire.specs.declared.fields.ErrorField.{ErrorField}
use Rattle.pg_wire.specs.declared.status.TransactionStatus.{TransactionStatus}
use Rattle.std.proofs.Common.{◌≡◌, ◌≢◌, ◌⊎◌, ℕ, Bool, true, false, cond, List, [], ◌∷◌, ◌++◌, length, map, Option, Some, None, refl, sym, ap, ◌∙◌, subst, inl, inr, ⊎_elim}
use Rattle.std.specs.List.{AllByRecursion}
use Rattle.pg_wire.specs.Frontend.{FrontendMessage, Query, Parse, DescribeStatement, DescribePortal, Bind, Execute, CloseStatement, ClosePortal, Sync, Terminate, CopyData, CopyDone, CopyFail}
use Rattle.pg_wire.specs.Backend.{FieldDescription, Values, BackendMessage, ReadyForQuery, DataRow, CommandComplete, ErrorResponse, EmptyQueryResponse}
use Rattle.pg_wire.specs.Server.{Server, Statement, statement_at, without_statement, portal_at, IsPortalResult, DescribesFields, Fails, Ignores, StepsParse, StepsDescribe, StepsDescribePortal, StepsBind, StepsExecute, StepsClose, StepsSync, StepsTerminate, after_sync, Steps, Skips, ServerStep}
use Rattle.pg_wire.specs.Groups.{IsInner}
use Rattle.pg_wire.specs.declared.status.TransactionStatus.TheVariants as statuses
use Rattle.pg_wire.proofs.Tests.{of_three}

-- ---- a server that is over, or skips

over_step : (over skip : Bool) (A B C : Type 0) → over ≡ true → cond over A (cond skip B C) → A
over_step true skip A B C e h = h
over_step false skip A B C e h = absurd cc

pub silent_when_over : (old new : Server) (message : FrontendMessage) (rs : List BackendMessage) → old.over ≡ true → ServerStep old message rs new → (rs ≡ []) × (new ≡ old)
silent_when_over old new message rs e step = over_step old.over old.skip _ _ _ e step

skip_step : (over skip : Bool) (A B C D : Type 0) → skip ≡ true → (A → D) → (B → D) → cond over A (cond skip B C) → D
skip_step true skip A B C D e a b h = a h
skip_step false true A B C D e a b h = b h
skip_step false false A B C D e a b h = absurd cc

skipped : (old new : Server) (message : FrontendMessage) (rs : List BackendMessage) → message ≢ Sync → message ≢ Terminate → Skips old message rs new → Ignores old rs new
skipped old new Sync rs n m h = absurd (n refl)
skipped old new Terminate rs n m h = absurd (m refl)
skipped old new _ rs n m h = h

pub silent_when_skipping : (old new : Server) (message : FrontendMessage) (rs : List BackendMessage) → old.skip ≡ true → message ≢ Sync → message ≢ Terminate → ServerStep old message rs new → (rs ≡ []) × (new ≡ old)
silent_when_skipping old new message rs e n m step = skip_step old.over old.skip _ _ _ _ e (λ (h : Ignores old rs new). h) (skipped old new message rs n m) step

-- ---- an error makes it skip

abbrev IsNoError : BackendMessage → Type 0
IsNoError (ErrorResponse details) = ⊥
IsNoError _ = Unit {0}

abbrev AreNoErrors : List BackendMessage → Type 0
AreNoErrors rs = AllByRecursion IsNoError rs

at_place : (xs : List BackendMessage) (x : BackendMessage) (ys : List BackendMessage) → AreNoErrors (xs ++ x ∷ ys) → IsNoError x
at_place [] x ys h = h.0
at_place (y ∷ xs) x ys h = at_place xs x ys h.1

both_all : (xs ys : List BackendMessage) → AreNoErrors xs → AreNoErrors ys → AreNoErrors (xs ++ ys)
both_all [] ys h k = k
both_all (x ∷ xs) ys h k = (h.0, both_all xs ys h.1 k)

front_all : (xs ys : List BackendMessage) → AreNoErrors (xs ++ ys) → AreNoErrors xs
front_all [] ys h = tt
front_all (x ∷ xs) ys h = (h.0, front_all xs ys h.1)

rows_fine : (rows : List Values) → AreNoErrors (map DataRow rows)
rows_fine [] = tt
rows_fine (row ∷ rows) = (tt, rows_fine rows)

result_fine : (width : ℕ) (rs : List BackendMessage) → IsPortalResult width rs → AreNoErrors rs
result_fine width rs p = ⊎_elim
    (λ (c : (tag : List ℕ) × (rs ≡ map DataRow p.0 ++ CommandComplete tag ∷ [])). subst AreNoErrors (sym c.1) (both_all (map DataRow p.0) (CommandComplete c.0 ∷ []) (rows_fine p.0) (tt, tt)))
    (λ (c : rs ≡ map DataRow p.0 ++ EmptyQueryResponse ∷ []). subst AreNoErrors (sym c) (both_all (map DataRow p.0) (EmptyQueryResponse ∷ []) (rows_fine p.0) (tt, tt)))
    p.2

fields_fine : (fields : List FieldDescription) (a : BackendMessage) → DescribesFields fields a → IsNoError a
fields_fine fields a (inl e) = subst IsNoError (sym e) tt
fields_fine fields a (inr e) = subst IsNoError (sym e.1) tt

-- the one error among these is the last message
last_error : (front back xs : List BackendMessage) (d e : List ErrorField) → AreNoErrors xs → front ++ ErrorResponse d ∷ back ≡ xs ++ ErrorResponse e ∷ [] → back ≡ []
last_error [] back [] d e h is = cc
last_error [] back (x ∷ xs) d e h is =
    let head : x ≡ ErrorResponse d = cc in
    absurd (subst IsNoError head h.0)
last_error (y ∷ []) back [] d e h is = absurd cc
last_error (y ∷ z ∷ zs) back [] d e h is = absurd cc
last_error (y ∷ ys) back (x ∷ xs) d e h is =
    let tails : ys ++ ErrorResponse d ∷ back ≡ xs ++ ErrorResponse e ∷ [] = cc in
    last_error ys back xs d e h.1 tails

-- nothing more comes, and the server skips
abbrev Stops : List BackendMessage → Server → Type 0
Stops back new = (back ≡ []) × (new.skip ≡ true)

fails_stop : (old new : Server) (front back : List BackendMessage) (d : List ErrorField) → Fails old (front ++ ErrorResponse d ∷ back) new → Stops back new
fails_stop old new front back d h = (last_error front back [] d h.0 tt h.1, ap (λ (m : Server). m.skip) h.2)

fine_stop : (front back rs : List BackendMessage) (d : List ErrorField) (new : Server) → AreNoErrors rs → front ++ ErrorResponse d ∷ back ≡ rs → Stops back new
fine_stop front back rs d new h is = absurd (at_place front (ErrorResponse d) back (subst AreNoErrors (sym is) h))

nothing_stop : (old new : Server) (front back : List BackendMessage) (d : List ErrorField) → Ignores old (front ++ ErrorResponse d ∷ back) new → Stops back new
nothing_stop old new front back d h = fine_stop front back [] d new tt h.0

parse_stop : (old new : Server) (name sql : List ℕ) (front back : List BackendMessage) (d : List ErrorField) → StepsParse old name sql (front ++ ErrorResponse d ∷ back) new → Stops back new
parse_stop old new name sql front back d (inl h) = fine_stop front back _ d new (tt, tt) h.2
parse_stop old new name sql front back d (inr h) = fails_stop old new front back d h

describe_stop : (old new : Server) (o : Option Statement) (front back : List BackendMessage) (d : List ErrorField) → StepsDescribe old o (front ++ ErrorResponse d ∷ back) new → Stops back new
describe_stop old new None front back d h = fails_stop old new front back d h
describe_stop old new (Some s) front back d (inl h) = fine_stop front back _ d new (tt, (fields_fine s.fields h.1 h.2, tt)) h.3
describe_stop old new (Some s) front back d (inr h) = fails_stop old new front back d h

portal_stop : (old new : Server) (o : Option (List FieldDescription)) (front back : List BackendMessage) (d : List ErrorField) → StepsDescribePortal old o (front ++ ErrorResponse d ∷ back) new → Stops back new
portal_stop old new None front back d h = fails_stop old new front back d h
portal_stop old new (Some fields) front back d (inl h) = fine_stop front back _ d new (fields_fine fields h.0 h.1, tt) h.2
portal_stop old new (Some fields) front back d (inr h) = fails_stop old new front back d h

bind_stop : (old new : Server) (o : Option Statement) (front back : List BackendMessage) (d : List ErrorField) → StepsBind old o (front ++ ErrorResponse d ∷ back) new → Stops back new
bind_stop old new None front back d h = fails_stop old new front back d h
bind_stop old new (Some s) front back d (inl h) = fine_stop front back _ d new (tt, tt) h.0
bind_stop old new (Some s) front back d (inr h) = fails_stop old new front back d h

execute_stop : (old new : Server) (o : Option (List FieldDescription)) (front back : List BackendMessage) (d : List ErrorField) → StepsExecute old o (front ++ ErrorResponse d ∷ back) new → Stops back new
execute_stop old new None front back d h = fails_stop old new front back d h
execute_stop old new (Some fields) front back d (inl h) = absurd (at_place front (ErrorResponse d) back (result_fine (length fields) _ h.0))
execute_stop old new (Some fields) front back d (inr h) =
    let b = h.0 in
    (last_error front back b.0 d b.2 (front_all b.0 b.1 (result_fine (length fields) _ b.3)) b.5, ap (λ (m : Server). m.skip) h.1)

close_stop : (old closed new : Server) (front back : List BackendMessage) (d : List ErrorField) → StepsClose old closed (front ++ ErrorResponse d ∷ back) new → Stops back new
close_stop old closed new front back d (inl h) = fine_stop front back _ d new (tt, tt) h.0
close_stop old closed new front back d (inr h) = fails_stop old new front back d h

steps_stop : (old new : Server) (message : FrontendMessage) (front back : List BackendMessage) (d : List ErrorField) → IsInner message → Steps old message (front ++ ErrorResponse d ∷ back) new → Stops back new
steps_stop old new (Query sql) front back d i h = absurd i
steps_stop old new (Parse name sql types) front back d i h = parse_stop old new name sql front back d h
steps_stop old new (DescribeStatement name) front back d i h = describe_stop old new (statement_at old name) front back d h
steps_stop old new (DescribePortal name) front back d i h = portal_stop old new (portal_at old name) front back d h
steps_stop old new (Bind name values) front back d i h = bind_stop old new (statement_at old name) front back d h
steps_stop old new (Execute name limit) front back d i h = execute_stop old new (portal_at old name) front back d h
steps_stop old new (CloseStatement name) front back d i h = close_stop old (without_statement old name) new front back d h
steps_stop old new (ClosePortal []) front back d i h = close_stop old (record old { portal = None }) new front back d h
steps_stop old new (ClosePortal (b ∷ bs)) front back d i h = close_stop old old new front back d h
steps_stop old new Sync front back d i h = absurd i
steps_stop old new Terminate front back d i h = absurd i
steps_stop old new (CopyData bytes) front back d i h = nothing_stop old new front back d h
steps_stop old new CopyDone front back d i h = nothing_stop old new front back d h
steps_stop old new (CopyFail text) front back d i h = nothing_stop old new front back d h

skips_stop : (old new : Server) (message : FrontendMessage) (front back : List BackendMessage) (d : List ErrorField) → IsInner message → Skips old message (front ++ ErrorResponse d ∷ back) new → Stops back new
skips_stop old new Sync front back d i h = absurd i
skips_stop old new Terminate front back d i h = absurd i
skips_stop old new _ front back d i h = nothing_stop old new front back d h

pub error_stops : (old new : Server) (message : FrontendMessage) (front back : List BackendMessage) (details : List ErrorField) → IsInner message → ServerStep old message (front ++ ErrorResponse details ∷ back) new → (back ≡ []) × (new.skip ≡ true)
error_stops old new message front back d i step = of_three old.over old.skip _ _ _ _ (nothing_stop old new front back d) (skips_stop old new message front back d i) (steps_stop old new message front back d i) step

-- ---- what Terminate, Query and Sync leave

pub terminate_ends : (old new : Server) (rs : List BackendMessage) → ServerStep old Terminate rs new → (rs ≡ []) × (new.over ≡ true)
terminate_ends old new rs step = go old.over refl step
  where
    go : (over : Bool) → old.over ≡ over → cond over (Ignores old rs new) (cond old.skip (StepsTerminate old rs new) (StepsTerminate old rs new)) → (rs ≡ []) × (new.over ≡ true)
    go true e h = (h.0, ap (λ (m : Server). m.over) h.1 ∙ e)
    go false e h = both old.skip h
      where
        both : (skip : Bool) → cond skip (StepsTerminate old rs new) (StepsTerminate old rs new) → (rs ≡ []) × (new.over ≡ true)
        both true k = (k.0, ap (λ (m : Server). m.over) k.1)
        both false k = (k.0, ap (λ (m : Server). m.over) k.1)

nothing_answered : (old new : Server) (r : BackendMessage) (rs : List BackendMessage) → Ignores old (r ∷ rs) new → ⊥
nothing_answered old new r rs h = let e = h.0 in cc

pub query_drops : (old new : Server) (sql : List ℕ) (r : BackendMessage) (rs : List BackendMessage) → ServerStep old (Query sql) (r ∷ rs) new → new ≡ record old { unnamed = None; portal = None }
query_drops old new sql r rs step = of_three old.over old.skip _ _ _ _ (λ (h : Ignores old (r ∷ rs) new). absurd (nothing_answered old new r rs h)) (λ (h : Ignores old (r ∷ rs) new). absurd (nothing_answered old new r rs h)) (λ (h : Steps old (Query sql) (r ∷ rs) new). h.1) step

sync_status : (old new : Server) (front : List BackendMessage) (status : TransactionStatus) → StepsSync old (front ++ ReadyForQuery status ∷ []) new → new ≡ after_sync old status
sync_status old new front status h = go front h.2
  where
    go : (xs : List BackendMessage) → (xs ++ ReadyForQuery status ∷ [] ≡ ReadyForQuery h.0 ∷ []) ⊎ ((details : List ErrorField) × (xs ++ ReadyForQuery status ∷ [] ≡ ErrorResponse details ∷ ReadyForQuery h.0 ∷ [])) → new ≡ after_sync old status
    go [] (inl e) = let same : h.0 ≡ status = cc in h.1 ∙ ap (after_sync old) same
    go (x ∷ []) (inl e) = absurd cc
    go (x ∷ y ∷ ys) (inl e) = absurd cc
    go [] (inr e) = let is = e.1 in absurd cc
    go (x ∷ []) (inr e) =
        let is = e.1 in
        let same : h.0 ≡ status = cc in
        h.1 ∙ ap (after_sync old) same
    go (x ∷ y ∷ []) (inr e) = let is = e.1 in absurd cc
    go (x ∷ y ∷ z ∷ zs) (inr e) = let is = e.1 in absurd cc

pub sync_leaves : (old new : Server) (front : List BackendMessage) (status : TransactionStatus) → ServerStep old Sync (front ++ ReadyForQuery status ∷ []) new → new ≡ after_sync old status
sync_leaves old new front status step = of_three old.over old.skip _ _ _ _ (λ (h : Ignores old (front ++ ReadyForQuery status ∷ []) new). absurd (empty front h.0)) (sync_status old new front status) (sync_status old new front status) step
  where
    empty : (xs : List BackendMessage) → xs ++ ReadyForQuery status ∷ [] ≡ [] → ⊥
    empty [] e = cc
    empty (x ∷ xs) e = cc

open_portal : (old : Server) (status : TransactionStatus) → status ≢ statuses.Idle → after_sync old status ≡ record old { skip = false }
open_portal old statuses.Idle n = absurd (n refl)
open_portal old _ n = refl

pub sync_keeps : (old new : Server) (front : List BackendMessage) (status : TransactionStatus) → status ≢ statuses.Idle → ServerStep old Sync (front ++ ReadyForQuery status ∷ []) new → new ≡ record old { skip = false }
sync_keeps old new front status n step = sync_leaves old new front status step ∙ open_portal old status n
