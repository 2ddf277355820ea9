-- A message that may not come begins no response of any server, and a copy that may come begins one.
use Rattle.std.proofs.Common.{◌≡◌, ◌∙◌, ℕ, zero, suc, ◌-◌, nat_eq, arith, replicate, Bool, true, false, cond, ◌==◌, inl, inr, List, [], ◌∷◌, ◌++◌, length, map, refl, sym, ap, subst, Option, Some, None, option_and_then, option_map}
use Rattle.std.specs.List.{AllByRecursion}
use Rattle.std.proofs.lemmas.Bool.{eqb-true}
use Rattle.std.proofs.lemmas.Option.{same_Some}
use Rattle.std.proofs.lemmas.Slice.Eq.{bytes_eq-Decides}
use Rattle.pg_wire.specs.declared.status.TransactionStatus.{TransactionStatus}
use Rattle.pg_wire.specs.Frame.{Frame}
use Rattle.pg_wire.specs.Frontend.{Query, Parse, DescribeStatement, Bind, Execute, CloseStatement, ClosePortal}
use Rattle.pg_wire.specs.Backend.{BackendMessage, backend_frame, HasBackendFrame, ReadyForQuery, RowDescription, DataRow, CommandComplete, ErrorResponse, EmptyQueryResponse, ParameterDescription, ParseComplete, BindComplete, CloseComplete, NoData, CopyInResponse, CopyOutResponse}
use Rattle.pg_wire.specs.Acceptor.{Awaits, FirstSegment, FurtherSegment, RowsOf, next, accepts}
use Rattle.pg_wire.specs.Groups.{IsGroup, IsInner}
use Rattle.pg_wire.specs.Refusals.{BeginsCopyResponse, MayBeginCopy}
use Rattle.pg_exchanges.specs.Expecting.{Step, Closes, Expected, steps_of, InQuery, InSteps, in_query, rows_on, following, behind, expected, width_at, MayCopy, BeginsKnowing}
use Rattle.pg_exchanges.specs.Answering.{described, running}
use Rattle.pg_exchanges.specs.Answering.{closing as closing_group}
use Rattle.pg_exchanges.proofs.ExpectingLaws.{refused_begins_no_group_response}
use Rattle.pg_columns.specs.declared.column.PgColumn.{PgColumn}
use Rattle.pg_columns.specs.Told.{columns_of}
use Rattle.pg_call.proofs.CopyBegun.{copy_begins_response, copy_begins_run, copy_begins_parsed}
use Rattle.pg_call.proofs.CopyOutLaws.{copy_refused, copy_strays, copied_parts}
use Rattle.pg_call.proofs.CopyInLaws.{feed_refused, feed_strays}
use Rattle.pg_call.specs.declared.kind.Kind.TheVariants as kinds
use Rattle.pg_call.specs.Hearing.{Opens, opens_at}
use Rattle.pg_wire.specs.declared.message.copy_response.CopyResponseData.{CopyResponseData}
use Rattle.pg_call.specs.declared.reply.Heard.TheVariants as heards
use Rattle.pg_call.specs.declared.request.Request.{Request}
use Rattle.pg_call.specs.declared.request.Request.TheVariants as requests
use Rattle.pg_call.specs.declared.judging.Part.{Part}
use Rattle.pg_call.specs.declared.judging.Part.TheVariants.{First, Further, Rows, Synced, Parsing, Typing, Describing, Described, Reparsing, Binding, Running, RunningOn, Closing, CopyFirst, CopyData, CopyEnd, Copied, Opening, Feeding}
use Rattle.pg_rows.specs.declared.heading.Heading.{Heading}
use Rattle.pg_call.specs.Requests.{Group, groups_of, kind_of, known, name_of, parsing_by, width_by, width_of, widths_of}
use Rattle.pg_call.specs.Items.{heading_after, news_of}
use Rattle.pg_call.specs.Replies.{awaited, awaits_first, awaits_run, begins, begins_copy, closing, goes_on, part_after, may_stray, MayNotCome}

-- ---- the reply goes on as the protocol says

abbrev Leads : Option Expected → Option Part → Type 0
Leads e None = Unit {0}
Leads e (Some q) = e ≡ Some (awaited q)

begun : (m : BackendMessage) → Leads (following (InQuery FirstSegment) m) (begins m)
begun (RowDescription fields) = refl
begun (CommandComplete tag) = refl
begun EmptyQueryResponse = refl
begun _ = tt

begun_further : (m : BackendMessage) → Leads (following (InQuery FurtherSegment) m) (begins m)
begun_further (RowDescription fields) = refl
begun_further (CommandComplete tag) = refl
begun_further EmptyQueryResponse = refl
begun_further _ = tt

of_table : (columns : ℕ) (b : Bool) → Leads (in_query (cond b (Some (RowsOf columns)) None)) (cond b (Some (Rows columns)) None)
of_table columns true = refl
of_table columns false = tt

of_portal : (columns : ℕ) (b : Bool) → Leads (rows_on (Closes ∷ []) (cond b (Some columns) None)) (cond b (Some (RunningOn columns)) None)
of_portal columns true = refl
of_portal columns false = tt

closing_suc : (more : ℕ) → closing (suc more) ≡ Closing more
closing_suc more = by (nat_eq (suc more) 0) refl
  where
    by : (b : Bool) → nat_eq (suc more) 0 ≡ b → cond b Synced (Closing (suc more - 1)) ≡ Closing more
    by true e = let z = eqb-true (suc more) 0 e in absurd (omega (arith, z))
    by false e = let same : suc more - 1 ≡ more = omega arith in ap (λ (n : ℕ). Closing n) same

closes_on : (more : ℕ) → Leads (Some (InSteps (replicate more Closes))) (Some (closing more))
closes_on zero = refl
closes_on (suc more) = subst (λ (p : Part). Leads (Some (InSteps (replicate (suc more) Closes))) (Some p)) (sym (closing_suc more)) refl

-- no part of a copy
abbrev pub IsPlain : Part → Type 0
IsPlain CopyFirst = ⊥
IsPlain CopyData = ⊥
IsPlain CopyEnd = ⊥
IsPlain Copied = ⊥
IsPlain (Opening ended) = ⊥
IsPlain (Feeding ended) = ⊥
IsPlain _ = Unit {0}

abbrev IsPlainOr : Option Part → Type 0
IsPlainOr None = Unit {0}
IsPlainOr (Some part) = IsPlain part

begins_plain : (m : BackendMessage) → IsPlainOr (begins m)
begins_plain (RowDescription fields) = tt
begins_plain (CommandComplete tag) = tt
begins_plain EmptyQueryResponse = tt
begins_plain _ = tt

table_plain : (columns : ℕ) (b : Bool) → IsPlainOr (cond b (Some (Rows columns)) None)
table_plain columns true = tt
table_plain columns false = tt

portal_plain : (columns : ℕ) (b : Bool) → IsPlainOr (cond b (Some (RunningOn columns)) None)
portal_plain columns true = tt
portal_plain columns false = tt

pub closing_plain : (more : ℕ) → IsPlain (closing more)
closing_plain more = by (nat_eq more 0)
  where
    by : (b : Bool) → IsPlain (cond b Synced (Closing (more - 1)))
    by true = tt
    by false = tt

goes_plain : (part : Part) (m : BackendMessage) → IsPlain part → IsPlainOr (goes_on part m)
goes_plain First m i = begins_plain m
goes_plain Further m i = begins_plain m
goes_plain (Rows columns) (DataRow values) i = table_plain columns (length values == columns)
goes_plain (Rows columns) (CommandComplete tag) i = tt
goes_plain (Rows columns) _ i = tt
goes_plain Synced m i = tt
goes_plain Parsing ParseComplete i = tt
goes_plain Parsing _ i = tt
goes_plain Typing (ParameterDescription types) i = tt
goes_plain Typing _ i = tt
goes_plain Describing (RowDescription fields) i = tt
goes_plain Describing NoData i = tt
goes_plain Describing _ i = tt
goes_plain (Described columns) m i = tt
goes_plain Reparsing ParseComplete i = tt
goes_plain Reparsing _ i = tt
goes_plain (Binding width) BindComplete i = tt
goes_plain (Binding width) _ i = tt
goes_plain (Running None) (DataRow values) i = tt
goes_plain (Running (Some columns)) (DataRow values) i = portal_plain columns (length values == columns)
goes_plain (Running width) (CommandComplete tag) i = tt
goes_plain (Running width) EmptyQueryResponse i = tt
goes_plain (Running width) _ i = tt
goes_plain (RunningOn columns) (DataRow values) i = portal_plain columns (length values == columns)
goes_plain (RunningOn columns) (CommandComplete tag) i = tt
goes_plain (RunningOn columns) EmptyQueryResponse i = tt
goes_plain (RunningOn columns) _ i = tt
goes_plain (Closing more) CloseComplete i = closing_plain more
goes_plain (Closing more) _ i = tt
goes_plain CopyFirst m i = absurd i
goes_plain CopyData m i = absurd i
goes_plain CopyEnd m i = absurd i
goes_plain Copied m i = absurd i
goes_plain (Opening ended) m i = absurd i
goes_plain (Feeding ended) m i = absurd i

plain_on : (part next : Part) (m : BackendMessage) → IsPlain part → goes_on part m ≡ Some next → IsPlain next
plain_on part next m i e = subst IsPlainOr e (goes_plain part m i)

gone : (part : Part) (m : BackendMessage) → IsPlain part → Leads (following (awaited part) m) (goes_on part m)
gone First m i = begun m
gone Further m i = begun_further m
gone (Rows columns) (DataRow values) i = of_table columns (length values == columns)
gone (Rows columns) (CommandComplete tag) i = refl
gone (Rows columns) _ i = tt
gone Synced m i = tt
gone Parsing ParseComplete i = refl
gone Parsing _ i = tt
gone Typing (ParameterDescription types) i = refl
gone Typing _ i = tt
gone Describing (RowDescription fields) i = refl
gone Describing NoData i = refl
gone Describing _ i = tt
gone (Described columns) m i = tt
gone Reparsing ParseComplete i = refl
gone Reparsing _ i = tt
gone (Binding width) BindComplete i = refl
gone (Binding width) _ i = tt
gone (Running None) (DataRow values) i = refl
gone (Running (Some columns)) (DataRow values) i = of_portal columns (length values == columns)
gone (Running width) (CommandComplete tag) i = refl
gone (Running width) EmptyQueryResponse i = refl
gone (Running width) _ i = tt
gone (RunningOn columns) (DataRow values) i = of_portal columns (length values == columns)
gone (RunningOn columns) (CommandComplete tag) i = refl
gone (RunningOn columns) EmptyQueryResponse i = refl
gone (RunningOn columns) _ i = tt
gone (Closing more) CloseComplete i = closes_on more
gone (Closing more) _ i = tt
gone CopyFirst m i = absurd i
gone CopyData m i = absurd i
gone CopyEnd m i = absurd i
gone Copied m i = absurd i
gone (Opening ended) m i = absurd i
gone (Feeding ended) m i = absurd i

followed : (part next : Part) (m : BackendMessage) → IsPlain part → goes_on part m ≡ Some next → following (awaited part) m ≡ Some (awaited next)
followed part next m i e = subst (Leads (following (awaited part) m)) e (gone part m i)

accepted_step : (part : Part) (m : BackendMessage) (ms : List BackendMessage) (q : Part) (o : Option Part) → IsPlain part → goes_on part m ≡ o → ((n : Part) → IsPlain n → part_after n ms ≡ Some q → (behind (awaited n) ms ≡ Some (awaited q)) × IsPlain q)
    → option_and_then (λ n. part_after n ms) o ≡ Some q → (behind (awaited part) (m ∷ ms) ≡ Some (awaited q)) × IsPlain q
accepted_step part m ms q None i g f e = absurd cc
accepted_step part m ms q (Some n) i g f e =
    let on = f n (plain_on part n m i g) e in
    (ap (λ (o : Option Expected). option_and_then (λ t. behind t ms) o) (followed part n m i g) ∙ on.0, on.1)

accepted : (part : Part) (ms : List BackendMessage) (q : Part) → IsPlain part → part_after part ms ≡ Some q → (behind (awaited part) ms ≡ Some (awaited q)) × IsPlain q
accepted part [] q i e = (ap (λ (p : Part). Some (awaited p)) (same_Some part q e), subst IsPlain (same_Some part q e) i)
accepted part (m ∷ ms) q i e = accepted_step part m ms q (goes_on part m) i refl (λ n j k. accepted n ms q j k) e

-- ---- what may not come is refused

not_of_table : (columns : ℕ) (b : Bool) → cond b (Some (Rows columns)) None ≡ None → in_query (cond b (Some (RowsOf columns)) None) ≡ None
not_of_table columns true e = absurd cc
not_of_table columns false e = refl

not_of_portal : (columns : ℕ) (b : Bool) → cond b (Some (RunningOn columns)) None ≡ None → rows_on (Closes ∷ []) (cond b (Some columns) None) ≡ None
not_of_portal columns true e = absurd cc
not_of_portal columns false e = refl

refused : (part : Part) (m : BackendMessage) → IsPlain part → MayNotCome part m → (following (awaited part) m ≡ None) × (MayCopy (awaited part) m → ⊥)
refused First (RowDescription fields) i h = absurd cc
refused First (CommandComplete tag) i h = absurd cc
refused First EmptyQueryResponse i h = absurd cc
refused First (ErrorResponse details) i h = absurd h
refused First (CopyInResponse format columns) i h = absurd cc
refused First (CopyOutResponse format columns) i h = absurd cc
refused First _ i h = (refl, λ x. x)
refused Further (RowDescription fields) i h = absurd cc
refused Further (CommandComplete tag) i h = absurd cc
refused Further EmptyQueryResponse i h = absurd cc
refused Further (ErrorResponse details) i h = absurd h
refused Further (ReadyForQuery status) i h = absurd cc
refused Further (CopyInResponse format columns) i h = absurd cc
refused Further (CopyOutResponse format columns) i h = absurd cc
refused Further _ i h = (refl, λ x. x)
refused (Rows columns) (DataRow values) i h = (not_of_table columns (length values == columns) h.0, λ x. x)
refused (Rows columns) (CommandComplete tag) i h = absurd cc
refused (Rows columns) (ErrorResponse details) i h = absurd h
refused (Rows columns) _ i h = (refl, λ x. x)
refused Synced (ErrorResponse details) i h = absurd h
refused Synced (ReadyForQuery status) i h = absurd cc
refused Synced _ i h = (refl, λ x. x)
refused Parsing ParseComplete i h = absurd cc
refused Parsing (ErrorResponse details) i h = absurd h
refused Parsing _ i h = (refl, λ x. x)
refused Typing (ParameterDescription types) i h = absurd cc
refused Typing (ErrorResponse details) i h = absurd h
refused Typing _ i h = (refl, λ x. x)
refused Describing (RowDescription fields) i h = absurd cc
refused Describing NoData i h = absurd cc
refused Describing (ErrorResponse details) i h = absurd h
refused Describing _ i h = (refl, λ x. x)
refused (Described columns) (ErrorResponse details) i h = absurd h
refused (Described columns) (ReadyForQuery status) i h = absurd cc
refused (Described columns) _ i h = (refl, λ x. x)
refused Reparsing ParseComplete i h = absurd cc
refused Reparsing (ErrorResponse details) i h = absurd h
refused Reparsing _ i h = (refl, λ x. x)
refused (Binding width) BindComplete i h = absurd cc
refused (Binding width) (ErrorResponse details) i h = absurd h
refused (Binding width) _ i h = (refl, λ x. x)
refused (Running None) (DataRow values) i h = absurd cc
refused (Running (Some columns)) (DataRow values) i h = (not_of_portal columns (length values == columns) h.0, λ x. x)
refused (Running width) (CommandComplete tag) i h = absurd cc
refused (Running width) EmptyQueryResponse i h = absurd cc
refused (Running width) (ErrorResponse details) i h = absurd h
refused (Running width) (CopyInResponse format columns) i h = absurd cc
refused (Running width) (CopyOutResponse format columns) i h = absurd cc
refused (Running width) _ i h = (refl, λ x. x)
refused (RunningOn columns) (DataRow values) i h = (not_of_portal columns (length values == columns) h.0, λ x. x)
refused (RunningOn columns) (CommandComplete tag) i h = absurd cc
refused (RunningOn columns) EmptyQueryResponse i h = absurd cc
refused (RunningOn columns) (ErrorResponse details) i h = absurd h
refused (RunningOn columns) _ i h = (refl, λ x. x)
refused (Closing more) CloseComplete i h = absurd cc
refused (Closing more) (ErrorResponse details) i h = absurd h
refused (Closing more) _ i h = (refl, λ x. x)
refused CopyFirst m i h = absurd i
refused CopyData m i h = absurd i
refused CopyEnd m i h = absurd i
refused Copied m i h = absurd i
refused (Opening ended) m i h = absurd i
refused (Feeding ended) m i h = absurd i

-- ---- the groups that calls queue

the_first : (g h : Group) → g ∷ [] ≡ h ∷ [] → g ≡ h
the_first g h e = cc

none_first : (h : Group) → [] ≡ h ∷ [] → ⊥
none_first h e = cc

closes_end : (names : List (List ℕ)) → AllByRecursion IsInner (map CloseStatement names)
closes_end [] = tt
closes_end (name ∷ names) = (tt, closes_end names)

-- what is asked begins with no copy from the client
abbrev IsPlainStart : Request → Type 0
IsPlainStart (requests.CopyIn feed) = ⊥
IsPlainStart r = Unit {0}

plain_start : (r : Request) → IsPlain (awaits_first r) → IsPlainStart r
plain_start (requests.CopyIn feed) i = absurd i
plain_start _ i = tt

run_group : (name types : List ℕ) (values : List (Option (List ℕ))) (again : Option (List ℕ)) → IsGroup (parsing_by name types again ++ running name values 0)
run_group name types values None = inr (Bind name values ∷ Execute [] 0 ∷ ClosePortal [] ∷ [], (tt, (tt, (tt, tt))), refl)
run_group name types values (Some sql) = inr (Parse name sql types ∷ Bind name values ∷ Execute [] 0 ∷ ClosePortal [] ∷ [], (tt, (tt, (tt, (tt, tt)))), refl)

pub groups_are : (r : Request) → IsPlainStart r → AllByRecursion IsGroup (groups_of r)
groups_are (requests.Execute query) i = (inl (query.sql, refl), tt)
groups_are (requests.ExecuteMany query) i = (inl (query.sql, refl), tt)
groups_are (requests.Fetch query) i = (inl (query.sql, refl), tt)
groups_are (requests.FetchMany query) i = (inl (query.sql, refl), tt)
groups_are (requests.FetchAll query) i = (inl (query.sql, refl), tt)
groups_are (requests.FetchOptional query) i = (inl (query.sql, refl), tt)
groups_are (requests.FetchOne query) i = (inl (query.sql, refl), tt)
groups_are (requests.Begin depth) i = (inl (_, refl), tt)
groups_are (requests.BeginWith query) i = (inl (query.sql, refl), tt)
groups_are (requests.CopyOut query) i = (inl (query.sql, refl), tt)
groups_are (requests.CopyIn feed) i = absurd i
groups_are (requests.Commit left) i = (inl (_, refl), tt)
groups_are (requests.Rollback left) i = (inl (_, refl), tt)
groups_are (requests.Describe x) i = (inr (Parse (name_of x.statement) x.sql x.arguments.types ∷ DescribeStatement (name_of x.statement) ∷ [], (tt, (tt, tt)), refl), tt)
groups_are (requests.Run bound) i = (run_group (name_of bound.statement) bound.arguments.types bound.arguments.values bound.again, tt)
groups_are (requests.Look lookup) i = (inl (lookup.text, refl), tt)
groups_are (requests.Fill filling) i = (inl (filling.text, refl), tt)
groups_are (requests.Evict eviction) i = (inr (CloseStatement (name_of eviction.statement) ∷ [], (tt, tt), refl), tt)
groups_are (requests.Clear statements) i = (inr (map CloseStatement (map name_of statements), closes_end (map name_of statements), refl), tt)
groups_are (requests.Prepare prepared) i = tt
groups_are requests.Ping i = (inr ([], tt, refl), tt)
groups_are requests.Flush i = tt
groups_are requests.Close i = tt

-- what is known of a statement stands under its name
known_at : (name : List ℕ) (width : Option ℕ) → width_at (known name width) name ≡ width
known_at name None = refl
known_at name (Some columns) = ap (λ (b : Bool). cond b (Some columns) None) ((bytes_eq-Decides name name).1 refl)

-- so the first row of what is run has this width
run_awaits : (name : List ℕ) (values : List (Option (List ℕ))) (width : Option ℕ) → expected (known name width) (running name values 0) ≡ awaited (Binding width)
run_awaits name values width = ap (λ (w : Option ℕ). awaited (Binding w)) (known_at name width)

-- of one that is prepared once more any width is awaited
bound_awaits : (name types : List ℕ) (values : List (Option (List ℕ))) (columns : Option (List PgColumn)) (again : Option (List ℕ)) → expected (known name (width_by again columns)) (parsing_by name types again ++ running name values 0) ≡ awaited (awaits_run (width_by again columns) again)
bound_awaits name types values columns None = run_awaits name values (option_map length columns)
bound_awaits name types values columns (Some sql) = refl

-- so many closes are awaited as there are statements to close
closes_steps : (statements : List ℕ) → steps_of [] None (closing_group (map name_of statements)) ≡ replicate (length statements) Closes
closes_steps [] = refl
closes_steps (s ∷ ss) = ap (λ (t : List Step). Closes ∷ t) (closes_steps ss)

closes_awaited : (statements : List ℕ) → expected [] (closing_group (map name_of statements)) ≡ awaited (closing (length statements))
closes_awaited [] = refl
closes_awaited (s ∷ ss) = ap (λ (t : List Step). InSteps (Closes ∷ t)) (closes_steps ss) ∙ ap awaited (sym (closing_suc (length ss)))

-- what is awaited first is what the protocol says of the group
first_awaits : (r : Request) (group : Group) → IsPlain (awaits_first r) → groups_of r ≡ group ∷ [] → expected (widths_of r) group ≡ awaited (awaits_first r)
first_awaits (requests.Execute query) group i e = rw (← the_first _ _ e) refl
first_awaits (requests.ExecuteMany query) group i e = rw (← the_first _ _ e) refl
first_awaits (requests.Fetch query) group i e = rw (← the_first _ _ e) refl
first_awaits (requests.FetchMany query) group i e = rw (← the_first _ _ e) refl
first_awaits (requests.FetchAll query) group i e = rw (← the_first _ _ e) refl
first_awaits (requests.FetchOptional query) group i e = rw (← the_first _ _ e) refl
first_awaits (requests.FetchOne query) group i e = rw (← the_first _ _ e) refl
first_awaits (requests.Begin depth) group i e = rw (← the_first _ _ e) refl
first_awaits (requests.BeginWith query) group i e = rw (← the_first _ _ e) refl
first_awaits (requests.CopyOut query) group i e = absurd i
first_awaits (requests.CopyIn feed) group i e = absurd i
first_awaits (requests.Commit left) group i e = rw (← the_first _ _ e) refl
first_awaits (requests.Rollback left) group i e = rw (← the_first _ _ e) refl
first_awaits (requests.Describe extended) group i e = rw (← the_first _ _ e) refl
first_awaits (requests.Run bound) group i e = rw (← the_first _ _ e) (bound_awaits (name_of bound.statement) bound.arguments.types bound.arguments.values bound.columns bound.again)
first_awaits (requests.Look lookup) group i e = rw (← the_first _ _ e) refl
first_awaits (requests.Fill filling) group i e = rw (← the_first _ _ e) refl
first_awaits (requests.Evict eviction) group i e = rw (← the_first _ _ e) refl
first_awaits (requests.Clear statements) group i e = rw (← the_first _ _ e) (closes_awaited statements)
first_awaits (requests.Prepare prepared) group i e = absurd (none_first group e)
first_awaits requests.Ping group i e = rw (← the_first _ _ e) refl
first_awaits requests.Flush group i e = absurd (none_first group e)
first_awaits requests.Close group i e = absurd (none_first group e)

plain_refused : (r : Request) (group : Group) (own : List BackendMessage) (part : Part) (f : Frame) → IsPlain (awaits_first r) → groups_of r ≡ group ∷ [] → AllByRecursion HasBackendFrame own → part_after (awaits_first r) own ≡ Some part
    → ((m : BackendMessage) → HasBackendFrame m → backend_frame m ≡ f → MayNotCome part m) → BeginsKnowing (widths_of r) group (map backend_frame own ++ f ∷ []) → ⊥
plain_refused r group own part f i g have e out b =
    let is = subst (AllByRecursion IsGroup) g (groups_are r (plain_start r i)) in
    let on = accepted (awaits_first r) own part i e in
    let came = ap (λ (x : Expected). behind x own) (first_awaits r group i g) ∙ on.0 in
    refused_begins_no_group_response (widths_of r) group own (awaited part) f is.0 have came (λ m h k. refused part m on.1 (out m h k)) b

pub run_plain : (width : Option ℕ) (again : Option (List ℕ)) → IsPlain (awaits_run width again)
run_plain width None = tt
run_plain width (Some sql) = tt

pub group_refused : (r : Request) (group : Group) (own : List BackendMessage) (part : Part) (f : Frame) → groups_of r ≡ group ∷ [] → AllByRecursion HasBackendFrame own → part_after (awaits_first r) own ≡ Some part
    → ((m : BackendMessage) → HasBackendFrame m → backend_frame m ≡ f → MayNotCome part m) → BeginsKnowing (widths_of r) group (map backend_frame own ++ f ∷ []) → ⊥
group_refused (requests.CopyOut query) group own part f g have e out b = copy_refused query.sql own part f have e out (subst (λ (x : Group). BeginsCopyResponse x (map backend_frame own ++ f ∷ [])) (sym (the_first _ _ g)) b.0)
group_refused (requests.CopyIn feed) group own part f g have e out b = feed_refused feed own part f have e out (subst (λ (x : Group). BeginsCopyResponse x (map backend_frame own ++ f ∷ [])) (sym (the_first _ _ g)) b.0)
group_refused (requests.Clear statements) group own part f g have e out b = plain_refused (requests.Clear statements) group own part f (closing_plain (length statements)) g have e out b
group_refused (requests.Run bound) group own part f g have e out b = plain_refused (requests.Run bound) group own part f (run_plain (width_of bound) bound.again) g have e out b
group_refused r group own part f g have e out b = plain_refused r group own part f tt g have e out b

-- behind a part of no copy comes another
pub plain_after : (part q : Part) (ms : List BackendMessage) → IsPlain part → part_after part ms ≡ Some q → IsPlain q
plain_after part q ms i e = (accepted part ms q i e).1

-- and there only a copy is another reply than the one that is awaited
pub copies_begin : (part : Part) (m : BackendMessage) → IsPlain part → may_stray part m ≡ true → begins_copy m ≡ true
copies_begin First m i e = e
copies_begin Further m i e = e
copies_begin (Running width) m i e = e
copies_begin CopyFirst m i e = absurd i
copies_begin Copied m i e = absurd i
copies_begin (Opening ended) m i e = absurd i
copies_begin (Feeding ended) m i e = absurd i
copies_begin _ m i e = absurd cc

-- ---- a copy that may come

-- the response to a Query stays one
stays_in_query : (s : Awaits) (own : List BackendMessage) (e : Expected) → behind (InQuery s) own ≡ Some e → (t : Awaits) × (e ≡ InQuery t) × (accepts s own ≡ Some t)
stays_in_query s [] e h = (s, sym (same_Some (InQuery s) e h), refl)
stays_in_query s (m ∷ ms) e h = by (next s m) (λ t k. stays_in_query t ms e k) h
  where
    by : (o : Option Awaits) → ((t : Awaits) → behind (InQuery t) ms ≡ Some e → (u : Awaits) × (e ≡ InQuery u) × (accepts t ms ≡ Some u)) → option_and_then (λ f. behind f ms) (in_query o) ≡ Some e
        → (u : Awaits) × (e ≡ InQuery u) × (option_and_then (λ t. accepts t ms) o ≡ Some u)
    by None f k = absurd cc
    by (Some t) f k = f t k

may_begin : (part : Part) (s : Awaits) (m : BackendMessage) → awaited part ≡ InQuery s → may_stray part m ≡ true → MayBeginCopy s m
may_begin First s m e h = subst (λ (t : Awaits). MayBeginCopy t m) (of_query FirstSegment s e) (begins_it m h)
  where
    of_query : (s t : Awaits) → InQuery s ≡ InQuery t → s ≡ t
    of_query s t e = cc

    begins_it : (m : BackendMessage) → may_stray First m ≡ true → MayBeginCopy FirstSegment m
    begins_it (CopyInResponse format columns) h = tt
    begins_it (CopyOutResponse format columns) h = tt
    begins_it _ h = absurd cc
may_begin Further s m e h = subst (λ (t : Awaits). MayBeginCopy t m) (of_query FurtherSegment s e) (begins_it m h)
  where
    of_query : (s t : Awaits) → InQuery s ≡ InQuery t → s ≡ t
    of_query s t e = cc

    begins_it : (m : BackendMessage) → may_stray Further m ≡ true → MayBeginCopy FurtherSegment m
    begins_it (CopyInResponse format columns) h = tt
    begins_it (CopyOutResponse format columns) h = tt
    begins_it _ h = absurd cc
may_begin (Running width) s m e h = absurd cc
may_begin _ s m e h = absurd cc

query_copies : (sql : List ℕ) (group : Group) (own : List BackendMessage) (part : Part) (m : BackendMessage) → (Query sql ∷ []) ∷ [] ≡ group ∷ [] → AllByRecursion HasBackendFrame own → HasBackendFrame m → part_after First own ≡ Some part → may_stray part m ≡ true
    → BeginsCopyResponse group (map backend_frame own ++ backend_frame m ∷ [])
query_copies sql group own part m g have h e may =
    let stays = stays_in_query FirstSegment own (awaited part) (accepted First own part tt e).0 in
    subst (λ (x : Group). BeginsCopyResponse x (map backend_frame own ++ backend_frame m ∷ [])) (the_first _ _ g) (copy_begins_response sql own stays.0 m have h stays.2 (may_begin part stays.0 m stays.1 may))

-- a portal's copy begins right behind BindComplete
abbrev IsPast : Part → Type 0
IsPast (RunningOn columns) = Unit {0}
IsPast (Closing more) = Unit {0}
IsPast Synced = Unit {0}
IsPast _ = ⊥

closing_past : (count : ℕ) → IsPast (closing count)
closing_past zero = tt
closing_past (suc more) = subst IsPast (sym (closing_suc more)) tt

goes_past : (columns : ℕ) (b : Bool) (n : Part) → cond b (Some (RunningOn columns)) None ≡ Some n → IsPast n
goes_past columns true n e = subst IsPast (same_Some (RunningOn columns) n e) tt
goes_past columns false n e = absurd cc

past_on : (part n : Part) (m : BackendMessage) → IsPast part → goes_on part m ≡ Some n → IsPast n
past_on (RunningOn columns) n (DataRow values) i e = goes_past columns (length values == columns) n e
past_on (RunningOn columns) n (CommandComplete tag) i e = subst IsPast (same_Some (Closing 0) n e) tt
past_on (RunningOn columns) n EmptyQueryResponse i e = subst IsPast (same_Some (Closing 0) n e) tt
past_on (RunningOn columns) n _ i e = absurd cc
past_on (Closing more) n CloseComplete i e = subst IsPast (same_Some (closing more) n e) (closing_past more)
past_on (Closing more) n _ i e = absurd cc
past_on Synced n m i e = absurd cc
past_on _ n m i e = absurd i

running_on : (width : Option ℕ) (n : Part) (m : BackendMessage) → goes_on (Running width) m ≡ Some n → IsPast n
running_on None n (DataRow values) e = subst IsPast (same_Some (RunningOn (length values)) n e) tt
running_on (Some columns) n (DataRow values) e = goes_past columns (length values == columns) n e
running_on width n (CommandComplete tag) e = subst IsPast (same_Some (Closing 0) n e) tt
running_on width n EmptyQueryResponse e = subst IsPast (same_Some (Closing 0) n e) tt
running_on width n _ e = absurd cc

past_after : (part q : Part) (ms : List BackendMessage) → IsPast part → part_after part ms ≡ Some q → IsPast q
past_after part q [] i e = subst IsPast (same_Some part q e) i
past_after part q (m ∷ ms) i e = by (goes_on part m) refl (λ n j k. past_after n q ms j k) e
  where
    by : (o : Option Part) → goes_on part m ≡ o → ((n : Part) → IsPast n → part_after n ms ≡ Some q → IsPast q) → option_and_then (λ n. part_after n ms) o ≡ Some q → IsPast q
    by None g f k = absurd cc
    by (Some n) g f k = f n (past_on part n m i g) k

past_copies_none : (part : Part) (m : BackendMessage) → IsPast part → may_stray part m ≡ true → ⊥
past_copies_none (RunningOn columns) m i e = cc
past_copies_none (Closing more) m i e = cc
past_copies_none Synced m i e = cc
past_copies_none _ m i e = i

bound_copies : (width : Option ℕ) (own : List BackendMessage) (part : Part) (m : BackendMessage) → part_after (Binding width) own ≡ Some part → may_stray part m ≡ true → own ≡ BindComplete ∷ []
bound_copies width [] part m e may = let k : may_stray (Binding width) m ≡ true = subst (λ (p : Part). may_stray p m ≡ true) (sym (same_Some (Binding width) part e)) may in absurd cc
bound_copies width (BindComplete ∷ []) part m e may = refl
bound_copies width (BindComplete ∷ x ∷ xs) part m e may = absurd (by (goes_on (Running width) x) refl e)
  where
    by : (o : Option Part) → goes_on (Running width) x ≡ o → option_and_then (λ n. part_after n xs) o ≡ Some part → ⊥
    by None g k = cc
    by (Some n) g k = past_copies_none part m (past_after n part xs (running_on width n x g) k) may
bound_copies width (_ ∷ xs) part m e may = absurd cc

-- a description is no place for a copy
abbrev pub Describes : Part → Type 0
Describes Parsing = Unit {0}
Describes Typing = Unit {0}
Describes Describing = Unit {0}
Describes (Described columns) = Unit {0}
Describes _ = ⊥

describes_on : (part n : Part) (m : BackendMessage) → Describes part → goes_on part m ≡ Some n → Describes n
describes_on Parsing n ParseComplete i e = subst Describes (same_Some Typing n e) tt
describes_on Parsing n _ i e = absurd cc
describes_on Typing n (ParameterDescription types) i e = subst Describes (same_Some Describing n e) tt
describes_on Typing n _ i e = absurd cc
describes_on Describing n (RowDescription fields) i e = subst Describes (same_Some (Described (length fields)) n e) tt
describes_on Describing n NoData i e = subst Describes (same_Some (Described 0) n e) tt
describes_on Describing n _ i e = absurd cc
describes_on (Described columns) n m i e = absurd cc
describes_on _ n m i e = absurd i

pub describes_after : (part q : Part) (ms : List BackendMessage) → Describes part → part_after part ms ≡ Some q → Describes q
describes_after part q [] i e = subst Describes (same_Some part q e) i
describes_after part q (m ∷ ms) i e = by (goes_on part m) refl (λ n j k. describes_after n q ms j k) e
  where
    by : (o : Option Part) → goes_on part m ≡ o → ((n : Part) → Describes n → part_after n ms ≡ Some q → Describes q) → option_and_then (λ n. part_after n ms) o ≡ Some q → Describes q
    by None g f k = absurd cc
    by (Some n) g f k = f n (describes_on part n m i g) k

describes_copies_none : (part : Part) (m : BackendMessage) → Describes part → may_stray part m ≡ true → ⊥
describes_copies_none Parsing m i e = cc
describes_copies_none Typing m i e = cc
describes_copies_none Describing m i e = cc
describes_copies_none (Described columns) m i e = cc
describes_copies_none _ m i e = i

-- nothing comes before the end of a reply to a Sync
synced_alone : (own : List BackendMessage) (part : Part) → part_after Synced own ≡ Some part → part ≡ Synced
synced_alone [] part e = cc
synced_alone (m ∷ ms) part e = absurd cc

no_copy_synced : (own : List BackendMessage) (part : Part) (m : BackendMessage) → part_after Synced own ≡ Some part → may_stray part m ≡ true → ⊥
no_copy_synced own part m e may = let k : may_stray Synced m ≡ true = subst (λ (p : Part). may_stray p m ≡ true) (synced_alone own part e) may in absurd cc

begins_run : (width : Option ℕ) (m : BackendMessage) → may_stray (Running width) m ≡ true → MayBeginCopy FirstSegment m
begins_run width (CopyInResponse format columns) h = tt
begins_run width (CopyOutResponse format columns) h = tt
begins_run width _ h = absurd cc

run_copies : (name : List ℕ) (values : List (Option (List ℕ))) (width : Option ℕ) (group : Group) (own : List BackendMessage) (part : Part) (m : BackendMessage) → running name values 0 ∷ [] ≡ group ∷ [] → HasBackendFrame m → part_after (Binding width) own ≡ Some part → may_stray part m ≡ true
    → BeginsCopyResponse group (map backend_frame own ++ backend_frame m ∷ [])
run_copies name values width group own part m g h e may =
    let alone = bound_copies width own part m e may in
    let runs : Running width ≡ part = same_Some (Running width) part (subst (λ (ms : List BackendMessage). part_after (Binding width) ms ≡ Some part) alone e) in
    rw (alone, ← the_first _ _ g) (copy_begins_run name values m h (begins_run width m (subst (λ (p : Part). may_stray p m ≡ true) (sym runs) may)))

-- the same where it is prepared once more: a copy begins behind ParseComplete and BindComplete
reparsed_copies : (own : List BackendMessage) (part : Part) (m : BackendMessage) → part_after Reparsing own ≡ Some part → may_stray part m ≡ true → own ≡ ParseComplete ∷ BindComplete ∷ []
reparsed_copies [] part m e may = let k : may_stray Reparsing m ≡ true = subst (λ (p : Part). may_stray p m ≡ true) (sym (same_Some Reparsing part e)) may in absurd cc
reparsed_copies (ParseComplete ∷ xs) part m e may = ap (λ (ms : List BackendMessage). ParseComplete ∷ ms) (bound_copies None xs part m e may)
reparsed_copies (_ ∷ xs) part m e may = absurd cc

again_copies : (name types : List ℕ) (values : List (Option (List ℕ))) (width : Option ℕ) (again : Option (List ℕ)) (group : Group) (own : List BackendMessage) (part : Part) (m : BackendMessage) → (parsing_by name types again ++ running name values 0) ∷ [] ≡ group ∷ [] → HasBackendFrame m
    → part_after (awaits_run width again) own ≡ Some part → may_stray part m ≡ true → BeginsCopyResponse group (map backend_frame own ++ backend_frame m ∷ [])
again_copies name types values width None group own part m g h e may = run_copies name values width group own part m g h e may
again_copies name types values width (Some sql) group own part m g h e may =
    let alone = reparsed_copies own part m e may in
    let runs : Running None ≡ part = same_Some (Running None) part (subst (λ (ms : List BackendMessage). part_after Reparsing ms ≡ Some part) alone e) in
    rw (alone, ← the_first _ _ g) (copy_begins_parsed name sql types values m h (begins_run None m (subst (λ (p : Part). may_stray p m ≡ true) (sym runs) may)))

pub group_copies : (r : Request) (group : Group) (own : List BackendMessage) (part : Part) (m : BackendMessage) → groups_of r ≡ group ∷ [] → AllByRecursion HasBackendFrame own → HasBackendFrame m → part_after (awaits_first r) own ≡ Some part → may_stray part m ≡ true
    → BeginsCopyResponse group (map backend_frame own ++ backend_frame m ∷ [])
group_copies (requests.Execute query) group own part m g have h e may = query_copies query.sql group own part m g have h e may
group_copies (requests.ExecuteMany query) group own part m g have h e may = query_copies query.sql group own part m g have h e may
group_copies (requests.Fetch query) group own part m g have h e may = query_copies query.sql group own part m g have h e may
group_copies (requests.FetchMany query) group own part m g have h e may = query_copies query.sql group own part m g have h e may
group_copies (requests.FetchAll query) group own part m g have h e may = query_copies query.sql group own part m g have h e may
group_copies (requests.FetchOptional query) group own part m g have h e may = query_copies query.sql group own part m g have h e may
group_copies (requests.FetchOne query) group own part m g have h e may = query_copies query.sql group own part m g have h e may
group_copies (requests.Begin depth) group own part m g have h e may = query_copies _ group own part m g have h e may
group_copies (requests.BeginWith query) group own part m g have h e may = query_copies query.sql group own part m g have h e may
group_copies (requests.CopyOut query) group own part m g have h e may =
    subst (λ (x : Group). BeginsCopyResponse x (map backend_frame own ++ backend_frame m ∷ [])) (the_first _ _ g) (copy_strays query.sql own part m have h e may)
group_copies (requests.CopyIn feed) group own part m g have h e may =
    subst (λ (x : Group). BeginsCopyResponse x (map backend_frame own ++ backend_frame m ∷ [])) (the_first _ _ g) (feed_strays feed own part m have h e may)
group_copies (requests.Commit left) group own part m g have h e may = query_copies _ group own part m g have h e may
group_copies (requests.Rollback left) group own part m g have h e may = query_copies _ group own part m g have h e may
group_copies (requests.Describe extended) group own part m g have h e may = absurd (describes_copies_none part m (describes_after Parsing part own tt e) may)
group_copies (requests.Run bound) group own part m g have h e may = again_copies (name_of bound.statement) bound.arguments.types bound.arguments.values (width_of bound) bound.again group own part m g h e may
group_copies (requests.Look lookup) group own part m g have h e may = query_copies lookup.text group own part m g have h e may
group_copies (requests.Fill filling) group own part m g have h e may = query_copies filling.text group own part m g have h e may
group_copies (requests.Evict eviction) group own part m g have h e may = absurd (past_copies_none part m (past_after (Closing 0) part own tt e) may)
group_copies (requests.Clear statements) group own part m g have h e may = absurd (past_copies_none part m (past_after (closing (length statements)) part own (closing_past (length statements)) e) may)
group_copies (requests.Prepare prepared) group own part m g have h e may = absurd (none_first group g)
group_copies requests.Ping group own part m g have h e may = absurd (no_copy_synced own part m e may)
group_copies requests.Flush group own part m g have h e may = absurd (none_first group g)
group_copies requests.Close group own part m g have h e may = absurd (none_first group g)

-- ---- a copy from the client that opens

-- it is one that was asked for
opening_part : (part next : Part) (m : BackendMessage) (opened : CopyResponseData) → goes_on part m ≡ Some next → Opens (opens_at next (news_of m)) (heards.Opens opened) → (next ≡ Feeding false) × (ended : Bool) × (part ≡ Opening ended)
opening_part part next (CopyInResponse format columns) opened e h = let begun = by part e in (awaited_now next h, begun.0, begun.1)
  where
    awaited_now : (next : Part) → Opens (opens_at next (news_of (CopyInResponse format columns))) (heards.Opens opened) → next ≡ Feeding false
    awaited_now (Feeding false) h = refl
    awaited_now (Feeding true) h = absurd h
    awaited_now _ h = absurd h

    by : (part : Part) → goes_on part (CopyInResponse format columns) ≡ Some next → (ended : Bool) × (part ≡ Opening ended)
    by (Opening ended) e = (ended, refl)
    by (Feeding true) e = absurd cc
    by (Feeding false) e = absurd cc
    by (Running None) e = absurd cc
    by (Running (Some columns)) e = absurd cc
    by _ e = absurd cc
opening_part part next _ opened e h = absurd (none next h)
  where
    none : (next : Part) → Opens None (heards.Opens opened) → ⊥
    none next h = h

pub opens_for : (r : Request) (own : List BackendMessage) (part next : Part) (m : BackendMessage) (opened : CopyResponseData) → part_after (awaits_first r) own ≡ Some part → goes_on part m ≡ Some next → Opens (opens_at next (news_of m)) (heards.Opens opened) → (kind_of r ≡ kinds.CopyIn) × (next ≡ Feeding false)
opens_for r own part next m opened came goes opens =
    let at = opening_part part next m opened goes opens in
    (by r at.1 (subst (λ (p : Part). part_after (awaits_first r) own ≡ Some p) at.2 came), at.0)
  where
    by : (r : Request) (ended : Bool) → part_after (awaits_first r) own ≡ Some (Opening ended) → kind_of r ≡ kinds.CopyIn
    by (requests.CopyIn feed) ended e = refl
    by (requests.CopyOut query) ended e = absurd (copied_parts own (Opening ended) e)
    by (requests.Clear statements) ended e = absurd (plain_after (closing (length statements)) (Opening ended) own (closing_plain (length statements)) e)
    by (requests.Run bound) ended e = absurd (plain_after (awaits_first (requests.Run bound)) (Opening ended) own (run_plain (width_of bound) bound.again) e)
    by r ended e = absurd (plain_after (awaits_first r) (Opening ended) own tt e)

-- ---- which columns were described

pub described_columns : (h : Heading) (own : List BackendMessage) (columns : ℕ) (status : TransactionStatus) → h.columns ≡ Some [] → part_after Parsing own ≡ Some (Described columns) → (heading_after h own).columns ≡ Some (columns_of (described (own ++ ReadyForQuery status ∷ [])))
described_columns h (ParseComplete ∷ ParameterDescription types ∷ RowDescription fields ∷ []) columns status none e = rw none refl
described_columns h (ParseComplete ∷ ParameterDescription types ∷ NoData ∷ []) columns status none e = none
described_columns h _ columns status none e = absurd cc
