-- What is refused in the response to a group begins none.
use Rattle.pg_wire.specs.declared.fields.ErrorField.{ErrorField}
use Rattle.pg_wire.specs.declared.status.TransactionStatus.{TransactionStatus}
use Rattle.std.proofs.Common.{◌≡◌, ◌≢◌, ℕ, Bool, true, false, not, ◌||◌, cond, bytes_eq, List, [], ◌∷◌, ◌++◌, length, map, Option, Some, None, refl, sym, ap, ◌∙◌, subst, append-nil, flat_map, ◌⊎◌, inl, inr, option_and_then}
use Rattle.std.specs.List.{AllByRecursion}
use Rattle.std.proofs.lemmas.Bool.{eq-eqb}
use Rattle.std.proofs.lemmas.Option.{same_Some}
use Rattle.std.proofs.lemmas.Slice.Eq.{bytes_eq-Decides}
use Rattle.pg_wire.specs.Frontend.{FrontendMessage, Query, Parse, DescribeStatement, DescribePortal, Bind, Execute, CloseStatement, ClosePortal, Sync, Terminate, CopyData, CopyDone, CopyFail}
use Rattle.pg_wire.specs.Backend.{FieldDescription, Values, BackendMessage, ReadyForQuery, DataRow, CommandComplete, ErrorResponse, EmptyQueryResponse, CopyInResponse, CopyOutResponse, backend_frame, HasBackendFrame}
use Rattle.pg_wire.specs.Server.{Server, Statement, statement_at, with_statement, without_statement, portal_at, AreWide, IsPortalResult, DescribesFields, Fails, Ignores, StepsParse, StepsDescribe, StepsDescribePortal, StepsBind, StepsClose, StepsSync, Steps, Skips, ServerStep}
use Rattle.pg_wire.specs.Groups.{IsInner, IsBetween, IsGroup}
use Rattle.pg_wire.specs.Frame.{Frame}
use Rattle.pg_wire.specs.Acceptor.{Awaits, FirstSegment, FurtherSegment, RowsOf, AfterError, NothingMore, next}
use Rattle.pg_wire.specs.Copying.{CopyServer, CopyMode, NotCopying, Leaves, IsCopyOut, IsPortalCopy, StepsCopyExecute, StepsOutsideCopy, CopyStep, CopyRun}
use Rattle.pg_wire.specs.Refusals.{MayBeginCopy, BeginsCopy}
use Rattle.pg_exchanges.specs.Expecting.{Step, Parses, Types, Columns, Binds, Runs, RunsOn, Closes, Expected, InQuery, InSteps, in_step, in_query, following, behind, Widths, width_at, forget, steps_for, widths_after, portal_width, steps_of, expected, HasWidths, MayCopy, MayNotFollow, BeginsKnowing}
use Rattle.pg_wire.proofs.RunLaws.{with_over, without_over, plain_step, sync_step}
use Rattle.pg_wire.proofs.StepLaws.{kept_close}
use Rattle.pg_wire.proofs.CopyLaws.{plain}
use Rattle.pg_wire.proofs.CopyAcceptorLaws.{Expects, Plain, copy_at, or_copy, takes, answer_taken}
use Rattle.pg_wire.proofs.RefusalLaws.{split, outside}
use Rattle.pg_wire.proofs.Tests.{where_neither}

-- ---- one message behind the other

pub behind_some : (o : Option Expected) (ms : List BackendMessage) (t : Expected) → option_and_then (λ f. behind f ms) o ≡ Some t → (f : Expected) × (o ≡ Some f) × (behind f ms ≡ Some t)
behind_some None ms t e = absurd cc
behind_some (Some f) ms t e = (f, refl, e)

pub behind_then : (e f : Expected) (xs ys : List BackendMessage) → behind e xs ≡ Some f → behind e (xs ++ ys) ≡ behind f ys
behind_then e f [] ys h = ap (λ (x : Expected). behind x ys) (same_Some e f h)
behind_then e f (m ∷ xs) ys h =
    let c = behind_some (following e m) xs f h in
    ap (option_and_then (λ (u : Expected). behind u (xs ++ ys))) c.1 ∙ behind_then c.0 f xs ys c.2

-- up to their end, or to the first message of a copy, the messages may come one behind the other
abbrev pub Walks : Expected → List BackendMessage → Type 0
Walks e [] = Unit {0}
Walks e (m ∷ ms) = MayCopy e m ⊎ ((f : Expected) × (following e m ≡ Some f) × Walks f ms)

pub walks_then : (e f : Expected) (xs ys : List BackendMessage) → behind e xs ≡ Some f → Walks f ys → Walks e (xs ++ ys)
walks_then e f [] ys h w = subst (λ (x : Expected). Walks x ys) (sym (same_Some e f h)) w
walks_then e f (m ∷ xs) ys h w =
    let c = behind_some (following e m) xs f h in
    inr (c.0, c.1, walks_then c.0 f xs ys c.2 w)

begins_none : (w : Option ℕ) (steps : List Step) (m : BackendMessage) → BeginsCopy m → in_step (Runs w) steps m ≡ None
begins_none w steps (CopyInResponse format columns) h = refl
begins_none w steps (CopyOutResponse format columns) h = refl
begins_none w steps _ h = absurd h

query_none : (s : Awaits) (m : BackendMessage) → MayBeginCopy s m → next s m ≡ None
query_none FirstSegment (CopyInResponse format columns) h = refl
query_none FirstSegment (CopyOutResponse format columns) h = refl
query_none FirstSegment _ h = absurd h
query_none FurtherSegment (CopyInResponse format columns) h = refl
query_none FurtherSegment (CopyOutResponse format columns) h = refl
query_none FurtherSegment _ h = absurd h
query_none (RowsOf width) m h = absurd h
query_none AfterError m h = absurd h
query_none NothingMore m h = absurd h

-- what begins a copy is not accepted
copy_refused : (e : Expected) (m : BackendMessage) → MayCopy e m → following e m ≡ None
copy_refused (InQuery s) m h = ap in_query (query_none s m h)
copy_refused (InSteps []) m h = absurd h
copy_refused (InSteps (Runs width ∷ steps)) m h = begins_none width steps m h
copy_refused (InSteps (Parses ∷ steps)) m h = absurd h
copy_refused (InSteps (Types ∷ steps)) m h = absurd h
copy_refused (InSteps (Columns ∷ steps)) m h = absurd h
copy_refused (InSteps (Binds ∷ steps)) m h = absurd h
copy_refused (InSteps (RunsOn width ∷ steps)) m h = absurd h
copy_refused (InSteps (Closes ∷ steps)) m h = absurd h

some_none : (o : Option Expected) (f : Expected) → o ≡ Some f → o ≡ None → ⊥
some_none o f e h = absurd cc

pub walked_refused : (own : List BackendMessage) (e t : Expected) (m : BackendMessage) (rest : List BackendMessage) → Walks e (own ++ m ∷ rest) → behind e own ≡ Some t → following t m ≡ None → (MayCopy t m → ⊥) → ⊥
walked_refused [] e t m rest (inl c) h k n = n (subst (λ (x : Expected). MayCopy x m) (same_Some e t h) c)
walked_refused [] e t m rest (inr u) h k n = some_none (following e m) u.0 u.1 (ap (λ (x : Expected). following x m) (same_Some e t h) ∙ k)
walked_refused (a ∷ own) e t m rest (inl c) h k n =
    let s = behind_some (following e a) own t h in
    some_none (following e a) s.0 s.1 (copy_refused e a c)
walked_refused (a ∷ own) e t m rest (inr u) h k n =
    let s = behind_some (following e a) own t h in
    walked_refused own s.0 t m rest (subst (λ (x : Expected). Walks x (own ++ m ∷ rest)) (same_Some u.0 s.0 (sym u.1 ∙ s.1)) u.2) s.2 k n

-- ---- the end of a response

pub ends_ready : (e f : Expected) (status : TransactionStatus) → following e (ReadyForQuery status) ≡ Some f → f ≡ InQuery NothingMore
ends_ready (InQuery FirstSegment) f status h = absurd cc
ends_ready (InQuery FurtherSegment) f status h = sym (same_Some (InQuery NothingMore) f h)
ends_ready (InQuery (RowsOf width)) f status h = absurd cc
ends_ready (InQuery AfterError) f status h = sym (same_Some (InQuery NothingMore) f h)
ends_ready (InQuery NothingMore) f status h = absurd cc
ends_ready (InSteps []) f status h = sym (same_Some (InQuery NothingMore) f h)
ends_ready (InSteps (Parses ∷ steps)) f status h = absurd cc
ends_ready (InSteps (Types ∷ steps)) f status h = absurd cc
ends_ready (InSteps (Columns ∷ steps)) f status h = absurd cc
ends_ready (InSteps (Binds ∷ steps)) f status h = absurd cc
ends_ready (InSteps (Runs width ∷ steps)) f status h = absurd cc
ends_ready (InSteps (RunsOn width ∷ steps)) f status h = absurd cc
ends_ready (InSteps (Closes ∷ steps)) f status h = absurd cc

-- ---- a Query

copy_found : (s : Awaits) (m : BackendMessage) (ms : List BackendMessage) (x : Expects) → option_and_then (λ y. takes y ms) (copy_at s m) ≡ Some x → MayBeginCopy s m
copy_found FirstSegment (CopyInResponse format columns) ms x e = tt
copy_found FirstSegment (CopyOutResponse format columns) ms x e = tt
copy_found FirstSegment _ ms x e = absurd cc
copy_found FurtherSegment (CopyInResponse format columns) ms x e = tt
copy_found FurtherSegment (CopyOutResponse format columns) ms x e = tt
copy_found FurtherSegment _ ms x e = absurd cc
copy_found (RowsOf width) m ms x e = absurd cc
copy_found AfterError m ms x e = absurd cc
copy_found NothingMore m ms x e = absurd cc

pub query_walks : (s : Awaits) (ms : List BackendMessage) (x : Expects) → takes (Plain s) ms ≡ Some x → Walks (InQuery s) ms
query_walks s [] x e = tt
query_walks s (m ∷ ms) x e = by (next s m) refl e (λ t k. query_walks t ms x k)
  where
    by : (o : Option Awaits) → next s m ≡ o → option_and_then (λ y. takes y ms) (or_copy s m o) ≡ Some x → ((t : Awaits) → takes (Plain t) ms ≡ Some x → Walks (InQuery t) ms) → MayBeginCopy s m ⊎ ((f : Expected) × (in_query (next s m) ≡ Some f) × Walks f ms)
    by (Some t) h e f = inr (InQuery t, ap in_query h, f t e)
    by None h e f = inl (copy_found s m ms x e)

-- ---- what is known of a server

-- the portal is as wide as is known
abbrev PortalFits : Option ℕ → Option (List FieldDescription) → Type 0
PortalFits (Some width) (Some fields) = length fields ≡ width
PortalFits _ _ = Unit {0}

record Fits (widths : Widths) (portal : Option ℕ) (server : Server) : Type 0 where
  over : server.over ≡ false
  skip : server.skip ≡ false
  known : HasWidths server widths
  wide : PortalFits portal server.portal

no_portal : (portal : Option ℕ) → PortalFits portal None
no_portal None = tt
no_portal (Some width) = tt

any_portal : (o : Option (List FieldDescription)) → PortalFits None o
any_portal None = tt
any_portal (Some fields) = tt

-- what holds of the statements of other names still does
kept_widths : (name : List ℕ) (old new : Server) → ((other : List ℕ) (s : Statement) → bytes_eq other name ≡ false → statement_at old other ≡ Some s → statement_at new other ≡ Some s)
    → (widths : Widths) → HasWidths old widths → HasWidths new (forget name widths)
kept_widths name old new keeps [] h = tt
kept_widths name old new keeps (w ∷ ws) h = by (bytes_eq w.0 name) refl (kept_widths name old new keeps ws h.1)
  where
    by : (b : Bool) → bytes_eq w.0 name ≡ b → HasWidths new (forget name ws) → HasWidths new (cond (not b) (w ∷ forget name ws) (forget name ws))
    by true e rest = rest
    by false e rest = ((h.0.0, keeps w.0 h.0.0 e h.0.1, h.0.2), rest)

same_apart : (x y : List ℕ) → bytes_eq x y ≡ false → bytes_eq y x ≡ false
same_apart x y e = by (bytes_eq y x) refl
  where
    by : (b : Bool) → bytes_eq y x ≡ b → b ≡ false
    by true h = let yes = (bytes_eq-Decides x y).1 (sym ((bytes_eq-Decides y x).0 h)) in absurd cc
    by false h = refl

apart : (x y : List ℕ) → bytes_eq x y ≡ false → x ≡ y → ⊥
apart x y e same = let yes = (bytes_eq-Decides x y).1 same in absurd cc

pub with_kept : (name : List ℕ) (made : Statement) (m : Server) (other : List ℕ) (s : Statement) → bytes_eq other name ≡ false → statement_at m other ≡ Some s → statement_at (with_statement m name made) other ≡ Some s
with_kept [] made m [] s e k = absurd cc
with_kept [] made m (c ∷ cs) s e k = k
with_kept (b ∷ bs) made m [] s e k = k
with_kept (b ∷ bs) made m (c ∷ cs) s e k = let no = same_apart (c ∷ cs) (b ∷ bs) e in rw no k

without_kept : (name : List ℕ) (m : Server) (other : List ℕ) (s : Statement) → bytes_eq other name ≡ false → statement_at m other ≡ Some s → statement_at (without_statement m name) other ≡ Some s
without_kept [] m [] s e k = absurd cc
without_kept [] m (c ∷ cs) s e k = k
without_kept (b ∷ bs) m [] s e k = k
without_kept (b ∷ bs) m (c ∷ cs) s e k = kept_close (c ∷ cs) (b ∷ bs) s m.named (λ same. apart (c ∷ cs) (b ∷ bs) e (sym same)) k

pub with_skip : (m : Server) (name : List ℕ) (s : Statement) → (with_statement m name s).skip ≡ m.skip
with_skip m [] s = refl
with_skip m (b ∷ bs) s = refl

pub without_skip : (m : Server) (name : List ℕ) → (without_statement m name).skip ≡ m.skip
without_skip m [] = refl
without_skip m (b ∷ bs) = refl

with_portal : (m : Server) (name : List ℕ) (s : Statement) → (with_statement m name s).portal ≡ m.portal
with_portal m [] s = refl
with_portal m (b ∷ bs) s = refl

without_portal : (m : Server) (name : List ℕ) → (without_statement m name).portal ≡ m.portal
without_portal m [] = refl
without_portal m (b ∷ bs) = refl

-- the width that is known of a statement
known_width : (widths : Widths) (m : Server) (name : List ℕ) (s : Statement) → HasWidths m widths → statement_at m name ≡ Some s → PortalFits (width_at widths name) (Some s.fields)
known_width [] m name s h e = tt
known_width (w ∷ ws) m name s h e = by (bytes_eq w.0 name) refl (known_width ws m name s h.1 e)
  where
    by : (b : Bool) → bytes_eq w.0 name ≡ b → PortalFits (width_at ws name) (Some s.fields) → PortalFits (cond b (Some w.1) (width_at ws name)) (Some s.fields)
    by true q rest =
        let at_name : statement_at m w.0 ≡ Some s = ap (statement_at m) ((bytes_eq-Decides w.0 name).0 q) ∙ e in
        let same : h.0.0 ≡ s = same_Some h.0.0 s (sym h.0.1 ∙ at_name) in
        ap (λ (t : Statement). length t.fields) (sym same) ∙ h.0.2
    by false q rest = rest

-- ---- what one message of a group is answered by

-- the messages lead to the steps behind, and the server is known as far; or an error came, and it skips; or a copy begins among them
abbrev Went : List Step → List Step → Widths → Option ℕ → List BackendMessage → CopyServer → Type 0
Went front steps widths portal rs new = (m : Server) × (new ≡ plain m) × Fits widths portal m × (behind (InSteps (front ++ steps)) rs ≡ Some (InSteps steps))

abbrev Broke : List Step → List Step → List BackendMessage → CopyServer → Type 0
Broke front steps rs new = (m : Server) × (new ≡ plain m) × (m.over ≡ false) × (m.skip ≡ true) × (behind (InSteps (front ++ steps)) rs ≡ Some (InSteps []))

abbrev Copied : List Step → List Step → List BackendMessage → Type 0
Copied front steps rs = (more : List BackendMessage) → Walks (InSteps (front ++ steps)) (rs ++ more)

abbrev Goes : List Step → List Step → Widths → Option ℕ → List BackendMessage → CopyServer → Type 0
Goes front steps widths portal rs new = Went front steps widths portal rs new ⊎ (Broke front steps rs new ⊎ Copied front steps rs)

pub error_within : (step : Step) (steps : List Step) (details : List ErrorField) → in_step step steps (ErrorResponse details) ≡ Some (InSteps [])
error_within Parses steps details = refl
error_within Types steps details = refl
error_within Columns steps details = refl
error_within Binds steps details = refl
error_within (Runs width) steps details = refl
error_within (RunsOn width) steps details = refl
error_within Closes steps details = refl

-- an error may come in place of the answer
abbrev MayFail : Step → Type 0
MayFail step = (steps : List Step) (details : List ErrorField) → in_step step steps (ErrorResponse details) ≡ Some (InSteps [])

failed : (step : Step) (front steps : List Step) (m next : Server) (new : CopyServer) (rs : List BackendMessage) → MayFail step → m.over ≡ false → Fails m rs next → Leaves next NotCopying new → Broke (step ∷ front) steps rs new
failed step front steps m next new rs may e h l = (next, l, ap (λ (x : Server). x.over) h.2 ∙ e, ap (λ (x : Server). x.skip) h.2, ap (behind (InSteps (step ∷ (front ++ steps)))) h.1 ∙ ap (option_and_then (λ (u : Expected). behind u [])) (may (front ++ steps) h.0))

-- the server stays as it is known, but for one that was made of it
moved : (widths : Widths) (portal : Option ℕ) (m made next : Server) → made.over ≡ m.over → made.skip ≡ m.skip → HasWidths made widths → PortalFits portal made.portal → m.over ≡ false → m.skip ≡ false → next ≡ made → Fits widths portal next
moved widths portal m made next o k w p e f same = subst (Fits widths portal) (sym same) (record { over = o ∙ e; skip = k ∙ f; known = w; wide = p })

parse_goes : (widths : Widths) (portal : Option ℕ) (m next : Server) (new : CopyServer) (name sql : List ℕ) (rs : List BackendMessage) (steps : List Step) → Fits widths portal m → StepsParse m name sql rs next → Leaves next NotCopying new
    → Goes (Parses ∷ []) steps (forget name widths) portal rs new
parse_goes widths portal m next new name sql rs steps f (inl h) l =
    let s : Statement = record { sql = sql; fields = h.1 } in
    inl (
      next,
      l,
      moved (forget name widths) portal m (with_statement m name s) next (with_over m name s) (with_skip m name s) (kept_widths name m (with_statement m name s) (λ o t e k. with_kept name s m o t e k) widths f.known) (subst (PortalFits portal) (sym (with_portal m name s)) f.wide) f.over f.skip h.3,
      ap (behind (InSteps (Parses ∷ steps))) h.2,
    )
parse_goes widths portal m next new name sql rs steps f (inr h) l = inr (inl (failed Parses [] steps m next new rs (λ s d. refl) f.over h l))

columns_next : (fields : List FieldDescription) (a : BackendMessage) (steps : List Step) → DescribesFields fields a → in_step Columns steps a ≡ Some (InSteps steps)
columns_next fields a steps (inl e) = ap (in_step Columns steps) e
columns_next fields a steps (inr e) = ap (in_step Columns steps) e.1

columns_behind : (fields : List FieldDescription) (a : BackendMessage) (steps : List Step) → DescribesFields fields a → behind (InSteps (Columns ∷ steps)) (a ∷ []) ≡ Some (InSteps steps)
columns_behind fields a steps d = ap (option_and_then (λ (u : Expected). behind u [])) (columns_next fields a steps d)

describe_goes : (widths : Widths) (portal : Option ℕ) (m next : Server) (new : CopyServer) (o : Option Statement) (rs : List BackendMessage) (steps : List Step) → Fits widths portal m → StepsDescribe m o rs next → Leaves next NotCopying new
    → Goes (Types ∷ Columns ∷ []) steps widths portal rs new
describe_goes widths portal m next new None rs steps f h l = inr (inl (failed Types (Columns ∷ []) steps m next new rs (λ s d. refl) f.over h l))
describe_goes widths portal m next new (Some s) rs steps f (inl h) l = inl (next, l, subst (Fits widths portal) (sym h.4) f, ap (behind (InSteps (Types ∷ Columns ∷ steps))) h.3 ∙ columns_behind s.fields h.1 steps h.2)
describe_goes widths portal m next new (Some s) rs steps f (inr h) l = inr (inl (failed Types (Columns ∷ []) steps m next new rs (λ s d. refl) f.over h l))

portal_goes : (widths : Widths) (portal : Option ℕ) (m next : Server) (new : CopyServer) (o : Option (List FieldDescription)) (rs : List BackendMessage) (steps : List Step) → Fits widths portal m → StepsDescribePortal m o rs next → Leaves next NotCopying new
    → Goes (Columns ∷ []) steps widths portal rs new
portal_goes widths portal m next new None rs steps f h l = inr (inl (failed Columns [] steps m next new rs (λ s d. refl) f.over h l))
portal_goes widths portal m next new (Some fields) rs steps f (inl h) l = inl (next, l, subst (Fits widths portal) (sym h.3) f, ap (behind (InSteps (Columns ∷ steps))) h.2 ∙ columns_behind fields h.0 steps h.1)
portal_goes widths portal m next new (Some fields) rs steps f (inr h) l = inr (inl (failed Columns [] steps m next new rs (λ s d. refl) f.over h l))

bind_goes : (widths : Widths) (portal : Option ℕ) (m next : Server) (new : CopyServer) (name : List ℕ) (o : Option Statement) (rs : List BackendMessage) (steps : List Step) → Fits widths portal m → statement_at m name ≡ o → StepsBind m o rs next → Leaves next NotCopying new
    → Goes (Binds ∷ []) steps widths (width_at widths name) rs new
bind_goes widths portal m next new name None rs steps f e h l = inr (inl (failed Binds [] steps m next new rs (λ s d. refl) f.over h l))
bind_goes widths portal m next new name (Some s) rs steps f e (inl h) l = inl (
  next,
  l,
  subst (Fits widths (width_at widths name)) (sym h.1) (record { over = f.over; skip = f.skip; known = f.known; wide = known_width widths m name s f.known e }),
  ap (behind (InSteps (Binds ∷ steps))) h.0,
)
bind_goes widths portal m next new name (Some s) rs steps f e (inr h) l = inr (inl (failed Binds [] steps m next new rs (λ s d. refl) f.over h l))

close_goes : (widths kept : Widths) (portal : Option ℕ) (m closed next : Server) (new : CopyServer) (rs : List BackendMessage) (steps : List Step) → Fits widths portal m → Fits kept portal closed → StepsClose m closed rs next → Leaves next NotCopying new
    → Goes (Closes ∷ []) steps kept portal rs new
close_goes widths kept portal m closed next new rs steps f k (inl h) l = inl (next, l, subst (Fits kept portal) (sym h.1) k, ap (behind (InSteps (Closes ∷ steps))) h.0)
close_goes widths kept portal m closed next new rs steps f k (inr h) l = inr (inl (failed Closes [] steps m next new rs (λ s d. refl) f.over h l))

-- ---- what an Execute gives

row_next : (width : ℕ) (row : Values) (steps : List Step) → length row ≡ width → in_step (RunsOn width) steps (DataRow row) ≡ Some (InSteps (RunsOn width ∷ steps))
row_next width row steps e = let same = eq-eqb (length row) width e in rw same refl

on_row : (width : ℕ) (row : Values) (rest : List BackendMessage) (steps : List Step) → length row ≡ width → behind (InSteps (RunsOn width ∷ steps)) (DataRow row ∷ rest) ≡ behind (InSteps (RunsOn width ∷ steps)) rest
on_row width row rest steps e = ap (option_and_then (λ (u : Expected). behind u rest)) (row_next width row steps e)

first_next : (portal : Option ℕ) (fields : List FieldDescription) (row : Values) (steps : List Step) → PortalFits portal (Some fields) → length row ≡ length fields → in_step (Runs portal) steps (DataRow row) ≡ Some (InSteps (RunsOn (length fields) ∷ steps))
first_next None fields row steps p e = ap (λ (n : ℕ). Some (InSteps (RunsOn n ∷ steps))) e
first_next (Some width) fields row steps p e =
    let same = eq-eqb (length row) width (e ∙ p) in
    rw same (ap (λ (n : ℕ). Some (InSteps (RunsOn n ∷ steps))) (sym p))

first_row : (portal : Option ℕ) (fields : List FieldDescription) (row : Values) (rest : List BackendMessage) (steps : List Step) → PortalFits portal (Some fields) → length row ≡ length fields
    → behind (InSteps (Runs portal ∷ steps)) (DataRow row ∷ rest) ≡ behind (InSteps (RunsOn (length fields) ∷ steps)) rest
first_row portal fields row rest steps p e = ap (option_and_then (λ (u : Expected). behind u rest)) (first_next portal fields row steps p e)

-- the last message of a result
abbrev IsLast : BackendMessage → Type 0
IsLast (CommandComplete tag) = Unit {0}
IsLast EmptyQueryResponse = Unit {0}
IsLast _ = ⊥

on_last : (width : ℕ) (m : BackendMessage) (steps : List Step) → IsLast m → in_step (RunsOn width) steps m ≡ Some (InSteps steps)
on_last width (CommandComplete tag) steps h = refl
on_last width EmptyQueryResponse steps h = refl
on_last width _ steps h = absurd h

first_last : (portal : Option ℕ) (m : BackendMessage) (steps : List Step) → IsLast m → in_step (Runs portal) steps m ≡ Some (InSteps steps)
first_last portal (CommandComplete tag) steps h = refl
first_last portal EmptyQueryResponse steps h = refl
first_last portal _ steps h = absurd h

on_rows : (width : ℕ) (rows : List Values) (m : BackendMessage) (steps : List Step) → AreWide width rows → IsLast m → behind (InSteps (RunsOn width ∷ steps)) (map DataRow rows ++ m ∷ []) ≡ Some (InSteps steps)
on_rows width [] m steps w h = ap (option_and_then (λ (u : Expected). behind u [])) (on_last width m steps h)
on_rows width (row ∷ rows) m steps w h = on_row width row (map DataRow rows ++ m ∷ []) steps w.0 ∙ on_rows width rows m steps w.1 h

all_rows : (portal : Option ℕ) (fields : List FieldDescription) (rows : List Values) (m : BackendMessage) (steps : List Step) → PortalFits portal (Some fields) → AreWide (length fields) rows → IsLast m
    → behind (InSteps (Runs portal ∷ steps)) (map DataRow rows ++ m ∷ []) ≡ Some (InSteps steps)
all_rows portal fields [] m steps p w h = ap (option_and_then (λ (u : Expected). behind u [])) (first_last portal m steps h)
all_rows portal fields (row ∷ rows) m steps p w h = first_row portal fields row (map DataRow rows ++ m ∷ []) steps p w.0 ∙ on_rows (length fields) rows m steps w.1 h

-- a result: its rows and its last message
abbrev IsResult : ℕ → List BackendMessage → Type 0
IsResult width rs = (rows : List Values) × (last : BackendMessage) × AreWide width rows × IsLast last × (rs ≡ map DataRow rows ++ last ∷ [])

result_of : (width : ℕ) (rs : List BackendMessage) → IsPortalResult width rs → IsResult width rs
result_of width rs p = by p.2
  where
    by : ((tag : List ℕ) × (rs ≡ map DataRow p.0 ++ CommandComplete tag ∷ [])) ⊎ (rs ≡ map DataRow p.0 ++ EmptyQueryResponse ∷ []) → IsResult width rs
    by (inl c) = (p.0, CommandComplete c.0, p.1, tt, c.1)
    by (inr c) = (p.0, EmptyQueryResponse, p.1, tt, c)

-- the beginning of rows and their end, and an error
on_broken : (width : ℕ) (front missing : List BackendMessage) (rows : List Values) (m : BackendMessage) (details : List ErrorField) (steps : List Step) → AreWide width rows → missing ≢ [] → front ++ missing ≡ map DataRow rows ++ m ∷ []
    → behind (InSteps (RunsOn width ∷ steps)) (front ++ ErrorResponse details ∷ []) ≡ Some (InSteps [])
on_broken width [] missing rows m details steps w n e = refl
on_broken width (a ∷ front) missing [] m details steps w n e = absurd (none front missing n cc)
  where
    none : (xs ys : List BackendMessage) → ys ≢ [] → xs ++ ys ≡ [] → ⊥
    none [] ys h k = h k
    none (x ∷ xs) ys h k = absurd cc
on_broken width (a ∷ front) missing (row ∷ rows) m details steps w n e =
    let head : a ≡ DataRow row = cc in
    let tails : front ++ missing ≡ map DataRow rows ++ m ∷ [] = cc in
    ap (λ (b : BackendMessage). behind (InSteps (RunsOn width ∷ steps)) (b ∷ front ++ ErrorResponse details ∷ [])) head ∙ on_row width row (front ++ ErrorResponse details ∷ []) steps w.0 ∙ on_broken width front missing rows m details steps w.1 n tails

broken : (portal : Option ℕ) (fields : List FieldDescription) (front missing : List BackendMessage) (rows : List Values) (m : BackendMessage) (details : List ErrorField) (steps : List Step) → PortalFits portal (Some fields) → AreWide (length fields) rows
    → missing ≢ [] → front ++ missing ≡ map DataRow rows ++ m ∷ [] → behind (InSteps (Runs portal ∷ steps)) (front ++ ErrorResponse details ∷ []) ≡ Some (InSteps [])
broken portal fields [] missing rows m details steps p w n e = refl
broken portal fields (a ∷ front) missing [] m details steps p w n e = absurd (none front missing n cc)
  where
    none : (xs ys : List BackendMessage) → ys ≢ [] → xs ++ ys ≡ [] → ⊥
    none [] ys h k = h k
    none (x ∷ xs) ys h k = absurd cc
broken portal fields (a ∷ front) missing (row ∷ rows) m details steps p w n e =
    let head : a ≡ DataRow row = cc in
    let tails : front ++ missing ≡ map DataRow rows ++ m ∷ [] = cc in
    ap (λ (b : BackendMessage). behind (InSteps (Runs portal ∷ steps)) (b ∷ front ++ ErrorResponse details ∷ [])) head ∙ first_row portal fields row (front ++ ErrorResponse details ∷ []) steps p w.0 ∙ on_broken (length fields) front missing rows m details steps w.1 n tails

out_walks : (portal : Option ℕ) (steps : List Step) (rs : List BackendMessage) → IsCopyOut rs → Copied (Runs portal ∷ []) steps rs
out_walks portal steps rs c more = rw c.4 (inl tt)

out_broken : (portal : Option ℕ) (steps : List Step) (front missing : List BackendMessage) (details : List ErrorField) (m : Server) (new : CopyServer) → new ≡ plain m → m.over ≡ false → m.skip ≡ true → IsCopyOut (front ++ missing)
    → Broke (Runs portal ∷ []) steps (front ++ ErrorResponse details ∷ []) new ⊎ Copied (Runs portal ∷ []) steps (front ++ ErrorResponse details ∷ [])
out_broken portal steps [] missing details m new l o k c = inl (m, l, o, k, refl)
out_broken portal steps (a ∷ front) missing details m new l o k c =
    let e = c.4 in
    let first : a ≡ CopyOutResponse c.0 c.1 = cc in
    inr (λ more. rw first (inl tt))

execute_goes : (widths : Widths) (portal : Option ℕ) (m : Server) (new : CopyServer) (o : Option (List FieldDescription)) (rs : List BackendMessage) (steps : List Step) → Fits widths portal m → PortalFits portal o → StepsCopyExecute m o rs new
    → Goes (Runs portal ∷ []) steps widths portal rs new
execute_goes widths portal m new None rs steps f p h = inr (inl (record m { skip = true }, h.2, f.over, refl, ap (behind (InSteps (Runs portal ∷ steps))) h.1))
execute_goes widths portal m new (Some fields) rs steps f p (inl (inl r, l)) =
    let t = result_of (length fields) rs r in
    inl (m, l, f, ap (behind (InSteps (Runs portal ∷ steps))) t.4 ∙ all_rows portal fields t.0 t.1 steps p t.2 t.3)
execute_goes widths portal m new (Some fields) rs steps f p (inl (inr c, l)) = inr (inr (out_walks portal steps rs c))
execute_goes widths portal m new (Some fields) rs steps f p (inr (inl (b, l))) = by b.3
  where
    same : rs ≡ b.0 ++ ErrorResponse b.2 ∷ []
    same = b.5

    by : IsPortalCopy (length fields) (b.0 ++ b.1) → Goes (Runs portal ∷ []) steps widths portal rs new
    by (inl r) =
        let t = result_of (length fields) _ r in
        inr (inl (record m { skip = true }, l, f.over, refl, ap (behind (InSteps (Runs portal ∷ steps))) same ∙ broken portal fields b.0 b.1 t.0 t.1 b.2 steps p t.2 b.4 t.4))
    by (inr c) = inr (rw same (out_broken portal steps b.0 b.1 b.2 (record m { skip = true }) new l f.over refl c))
execute_goes widths portal m new (Some fields) rs steps f p (inr (inr c)) = inr (inr (λ more. rw (c.2, c.1.2) (inl tt)))

-- ---- one message of a group

ignored : (widths : Widths) (portal : Option ℕ) (m next : Server) (new : CopyServer) (rs : List BackendMessage) (steps : List Step) → Fits widths portal m → Ignores m rs next → Leaves next NotCopying new → Goes [] steps widths portal rs new
ignored widths portal m next new rs steps f h l = inl (next, l, subst (Fits widths portal) (sym h.1) f, ap (behind (InSteps steps)) h.0)

pub plainly : (m next : Server) (message : FrontendMessage) (rs : List BackendMessage) → m.over ≡ false → m.skip ≡ false → ServerStep m message rs next → Steps m message rs next
plainly m next message rs e k h = plain_step m.over m.skip _ _ _ e k h

portal_fits_at : (portal : Option ℕ) (m : Server) (name : List ℕ) → PortalFits portal m.portal → PortalFits portal (portal_at m name)
portal_fits_at portal m [] p = p
portal_fits_at portal m (b ∷ bs) p = no_portal portal

message_goes : (widths : Widths) (portal : Option ℕ) (m : Server) (new : CopyServer) (message : FrontendMessage) (rs : List BackendMessage) (steps : List Step) → Fits widths portal m → IsInner message → StepsOutsideCopy m message rs new
    → Goes (steps_for portal message) steps (widths_after widths message) (portal_width widths portal message) rs new
message_goes widths portal m new (Query sql) rs steps f i h = absurd i
message_goes widths portal m new Sync rs steps f i h = absurd i
message_goes widths portal m new Terminate rs steps f i h = absurd i
message_goes widths portal m new (Parse name sql types) rs steps f i h = parse_goes widths portal m h.0 new name sql rs steps f (plainly m h.0 (Parse name sql types) rs f.over f.skip h.1) h.2
message_goes widths portal m new (DescribeStatement name) rs steps f i h = describe_goes widths portal m h.0 new (statement_at m name) rs steps f (plainly m h.0 (DescribeStatement name) rs f.over f.skip h.1) h.2
message_goes widths portal m new (DescribePortal name) rs steps f i h = portal_goes widths portal m h.0 new (portal_at m name) rs steps f (plainly m h.0 (DescribePortal name) rs f.over f.skip h.1) h.2
message_goes widths portal m new (Bind name values) rs steps f i h = bind_goes widths portal m h.0 new name (statement_at m name) rs steps f refl (plainly m h.0 (Bind name values) rs f.over f.skip h.1) h.2
message_goes widths portal m new (Execute name limit) rs steps f i h = execute_goes widths portal m new (portal_at m name) rs steps f (portal_fits_at portal m name f.wide) h
message_goes widths portal m new (CloseStatement name) rs steps f i h =
    close_goes widths (forget name widths) portal m (without_statement m name) h.0 new rs steps f
    (moved (forget name widths) portal m (without_statement m name) (without_statement m name) (without_over m name) (without_skip m name) (kept_widths name m (without_statement m name) (λ o t e k. without_kept name m o t e k) widths f.known) (subst (PortalFits portal) (sym (without_portal m name)) f.wide) f.over f.skip refl)
    (plainly m h.0 (CloseStatement name) rs f.over f.skip h.1) h.2
message_goes widths portal m new (ClosePortal []) rs steps f i h = close_goes widths widths portal m (record m { portal = None }) h.0 new rs steps f (record { over = f.over; skip = f.skip; known = f.known; wide = no_portal portal }) (plainly m h.0 (ClosePortal []) rs f.over f.skip h.1) h.2
message_goes widths portal m new (ClosePortal (b ∷ bs)) rs steps f i h = close_goes widths widths portal m m h.0 new rs steps f f (plainly m h.0 (ClosePortal (b ∷ bs)) rs f.over f.skip h.1) h.2
message_goes widths portal m new (CopyData bytes) rs steps f i h = ignored widths portal m h.0 new rs steps f (plainly m h.0 (CopyData bytes) rs f.over f.skip h.1) h.2
message_goes widths portal m new CopyDone rs steps f i h = ignored widths portal m h.0 new rs steps f (plainly m h.0 CopyDone rs f.over f.skip h.1) h.2
message_goes widths portal m new (CopyFail text) rs steps f i h = ignored widths portal m h.0 new rs steps f (plainly m h.0 (CopyFail text) rs f.over f.skip h.1) h.2

-- ---- the whole group

abbrev flat : List (List BackendMessage) → List BackendMessage
flat rss = flat_map (λ rs. rs) rss

sync_end : (m : Server) (rs : List BackendMessage) (new : Server) → StepsSync m rs new → Walks (InSteps []) rs
sync_end m rs new s = by s.2
  where
    by : (rs ≡ ReadyForQuery s.0 ∷ []) ⊎ ((details : List ErrorField) × (rs ≡ ErrorResponse details ∷ ReadyForQuery s.0 ∷ [])) → Walks (InSteps []) rs
    by (inl e) = rw e (inr (InQuery NothingMore, refl, tt))
    by (inr e) = rw e.1 (inr (InQuery AfterError, refl, inr (InQuery NothingMore, refl, tt)))

-- the server says nothing more, but for the Sync
skip_step : (over skip : Bool) (A B C : Type 0) → over ≡ false → skip ≡ true → cond over A (cond skip B C) → B
skip_step true skip A B C e k h = absurd cc
skip_step false true A B C e k h = h
skip_step false false A B C e k h = absurd cc

skips : (m next : Server) (message : FrontendMessage) (rs : List BackendMessage) → IsInner message → Skips m message rs next → Ignores m rs next
skips m next (Query sql) rs i h = absurd i
skips m next Sync rs i h = absurd i
skips m next Terminate rs i h = absurd i
skips m next _ rs i h = h

where_skipped : (over skip : Bool) (A B : Type 0) → skip ≡ true → cond (over || skip) A B → A
where_skipped true skip A B e h = h
where_skipped false true A B e h = h
where_skipped false false A B e h = absurd cc

-- one message, to a server that skips
skipped_step : (m : Server) (new : CopyServer) (message : FrontendMessage) (rs : List BackendMessage) → m.over ≡ false → m.skip ≡ true → CopyStep (plain m) message rs new → (next : Server) × Skips m message rs next × Leaves next NotCopying new
skipped_step m new message rs e k h =
    let s = where_skipped m.over m.skip _ _ k h in
    (s.0, skip_step m.over m.skip _ _ _ e k s.1, s.2)

skipping_walks : (inner : List FrontendMessage) (m : Server) (new : CopyServer) (rss : List (List BackendMessage)) → AllByRecursion IsInner inner → m.over ≡ false → m.skip ≡ true → CopyRun (plain m) (inner ++ Sync ∷ []) rss new → Walks (InSteps []) (flat rss)
skipping_walks [] m new [] i e k run = tt
skipping_walks [] m new (rs ∷ []) i e k run =
    let s = skipped_step m run.0 Sync rs e k run.1 in
    subst (Walks (InSteps [])) (sym (append-nil rs)) (sync_end m rs s.0 s.1)
skipping_walks [] m new (rs ∷ more ∷ rss) i e k run = absurd run.2
skipping_walks (message ∷ inner) m new [] i e k run = absurd run
skipping_walks (message ∷ inner) m new (rs ∷ rss) i e k run =
    let s = skipped_step m run.0 message rs e k run.1 in
    let h = skips m s.0 message rs i.0 s.1 in
    let same : run.0 ≡ plain m = s.2 ∙ ap plain h.1 in
    subst (λ (t : List BackendMessage). Walks (InSteps []) (t ++ flat rss)) (sym h.0) (skipping_walks inner m new rss i.1 e k (subst (λ (x : CopyServer). CopyRun x (inner ++ Sync ∷ []) rss new) same run.2))

pub went_step : (m : Server) (new : CopyServer) (message : FrontendMessage) (rs : List BackendMessage) → m.over ≡ false → m.skip ≡ false → CopyStep (plain m) message rs new → StepsOutsideCopy m message rs new
went_step m new message rs e k h = where_neither m.over m.skip _ _ e k h

group_walks : (inner : List FrontendMessage) (widths : Widths) (portal : Option ℕ) (m : Server) (new : CopyServer) (rss : List (List BackendMessage)) → AllByRecursion IsInner inner → Fits widths portal m → CopyRun (plain m) (inner ++ Sync ∷ []) rss new
    → Walks (InSteps (steps_of widths portal (inner ++ Sync ∷ []))) (flat rss)
group_walks [] widths portal m new [] i f run = tt
group_walks [] widths portal m new (rs ∷ []) i f run =
    let s = went_step m run.0 Sync rs f.over f.skip run.1 in
    subst (Walks (InSteps [])) (sym (append-nil rs)) (sync_end m rs s.0 (sync_step m s.0 rs f.over s.1))
group_walks [] widths portal m new (rs ∷ more ∷ rss) i f run = absurd run.2
group_walks (message ∷ inner) widths portal m new [] i f run = absurd run
group_walks (message ∷ inner) widths portal m new (rs ∷ rss) i f run =
    by (message_goes widths portal m run.0 message rs further f i.0 (went_step m run.0 message rs f.over f.skip run.1))
    (λ next e g. group_walks inner (widths_after widths message) (portal_width widths portal message) next new rss i.1 g (subst (λ (x : CopyServer). CopyRun x (inner ++ Sync ∷ []) rss new) e run.2))
  where
    further : List Step
    further = steps_of (widths_after widths message) (portal_width widths portal message) (inner ++ Sync ∷ [])

    by : Goes (steps_for portal message) further (widths_after widths message) (portal_width widths portal message) rs run.0 → ((next : Server) → run.0 ≡ plain next → Fits (widths_after widths message) (portal_width widths portal message) next → Walks (InSteps further) (flat rss))
        → Walks (InSteps (steps_for portal message ++ further)) (rs ++ flat rss)
    by (inl w) g = walks_then (InSteps (steps_for portal message ++ further)) (InSteps further) rs (flat rss) w.3 (g w.0 w.1 w.2)
    by (inr (inl b)) g = walks_then (InSteps (steps_for portal message ++ further)) (InSteps []) rs (flat rss) b.4 (skipping_walks inner b.0 new rss i.1 b.2 b.3 (subst (λ (x : CopyServer). CopyRun x (inner ++ Sync ∷ []) rss new) b.1 run.2))
    by (inr (inr c)) g = c (flat rss)

-- ---- any group

pub only_mode : (c : CopyServer) → c.mode ≡ NotCopying → c ≡ plain c.server
only_mode c e = ap (λ (mode : CopyMode). record { server = c.server; mode = mode }) e

pub starts_with_steps : (widths : Widths) (inner : List FrontendMessage) → AllByRecursion IsInner inner → expected widths (inner ++ Sync ∷ []) ≡ InSteps (steps_of widths None (inner ++ Sync ∷ []))
starts_with_steps widths [] i = refl
starts_with_steps widths (Query sql ∷ inner) i = absurd i.0
starts_with_steps widths (_ ∷ inner) i = refl

-- the response of a server between two groups, whatever it is, may come as is expected, up to a copy
pub response_walks : (widths : Widths) (inner : List FrontendMessage) (old new : CopyServer) (rss : List (List BackendMessage)) → AllByRecursion IsInner inner → old.mode ≡ NotCopying → IsBetween old.server → HasWidths old.server widths
    → CopyRun old (inner ++ Sync ∷ []) rss new → Walks (expected widths (inner ++ Sync ∷ [])) (flat rss)
response_walks widths inner old new rss i mode b known run =
    subst (λ (e : Expected). Walks e (flat rss)) (sym (starts_with_steps widths inner i))
    (group_walks inner widths None old.server new rss i (record { over = b.0; skip = b.1; known = known; wide = any_portal old.server.portal }) (subst (λ (c : CopyServer). CopyRun c (inner ++ Sync ∷ []) rss new) (only_mode old mode) run))

-- behind what was accepted, no server goes on with a message that is refused
refused_behind : (e t : Expected) (own : List BackendMessage) (frame : Frame) (rs : List BackendMessage) (more : List Frame) → AllByRecursion HasBackendFrame own → AllByRecursion HasBackendFrame rs → behind e own ≡ Some t → MayNotFollow t frame → Walks e rs
    → (map backend_frame own ++ frame ∷ []) ++ more ≡ map backend_frame rs → ⊥
refused_behind e t own frame rs more h k b n w is =
    let s = split own frame more rs h k is in
    let r = n s.message s.has_frame s.frame_is in
    walked_refused own e t s.message s.rest (subst (Walks e) s.whole w) b r.0 r.1

-- the response to a Query
query_response_walks : (old new : CopyServer) (sql : List ℕ) (rss : List (List BackendMessage)) → old.mode ≡ NotCopying → IsBetween old.server → CopyRun old (Query sql ∷ []) rss new → Walks (InQuery FirstSegment) (flat rss)
query_response_walks old new sql rss mode b run =
    let t = answer_taken _ (flat rss) new (outside old new (Query sql) rss mode b run) in
    query_walks FirstSegment (flat rss) t.0 t.1

group_response_walks : (widths : Widths) (group : List FrontendMessage) (old new : CopyServer) (rss : List (List BackendMessage)) → IsGroup group → old.mode ≡ NotCopying → IsBetween old.server → HasWidths old.server widths → CopyRun old group rss new → Walks (expected widths group) (flat rss)
group_response_walks widths group old new rss (inl q) mode b known run =
    subst (λ (g : List FrontendMessage). Walks (expected widths g) (flat rss)) (sym q.1) (query_response_walks old new q.0 rss mode b (subst (λ (g : List FrontendMessage). CopyRun old g rss new) q.1 run))
group_response_walks widths group old new rss (inr s) mode b known run =
    subst (λ (g : List FrontendMessage). Walks (expected widths g) (flat rss)) (sym s.2) (response_walks widths s.0 old new rss s.1 mode b known (subst (λ (g : List FrontendMessage). CopyRun old g rss new) s.2 run))

pub refused_begins_no_group_response : (widths : Widths) (group : List FrontendMessage) (own : List BackendMessage) (t : Expected) (frame : Frame) → IsGroup group → AllByRecursion HasBackendFrame own → behind (expected widths group) own ≡ Some t → MayNotFollow t frame
    → BeginsKnowing widths group (map backend_frame own ++ frame ∷ []) → ⊥
refused_begins_no_group_response widths group own t frame g h e n k =
    let b = k.0 in
    refused_behind (expected widths group) t own frame (flat b.replies) b.begins.0 h b.replies_have_frames e n (group_response_walks widths group b.before b.after b.replies g b.between.0 b.between.1 k.1 b.run) b.begins.1
