-- What an exchange makes of the statements that are kept leaves the rest of the session alone, and what stands as an exchange is of the call's kind.
use Rattle.std.proofs.Common.{◌≡◌, ◌≢◌, ℕ, Bool, true, false, cond, nat_eq, ne_eqb, refl, sym, ap, ◌∙◌, Option, Some, None, IsSome, is_some, List, option_map, Result, Ok, Err, IfErr}
use Rattle.pg_columns.specs.declared.column.PgColumn.{PgColumn}
use Rattle.pg_wire.specs.declared.error.Error.{Error}
use Rattle.pg_wire.specs.declared.error.Error.TheVariants as errors
use Rattle.pg_request.specs.Queries.{QueryText, ArgumentsSeen}
use Rattle.pg_rule.specs.declared.cache.Entry.{Entry}
use Rattle.pg_rule.specs.declared.rule.Rule.{Rule}
use Rattle.pg_rule.specs.Rules.{drawn, holding, number_left}
use Rattle.pg_call.specs.declared.kind.How.{How}
use Rattle.pg_call.specs.declared.kind.How.TheVariants as hows
use Rattle.pg_call.specs.declared.kind.Kind.TheVariants as kinds
use Rattle.pg_call.specs.declared.kind.Keeping.{Keeping}
use Rattle.pg_call.specs.declared.kind.Keeping.TheVariants as keepings
use Rattle.pg_call.specs.declared.statement.Goal.{Goal}
use Rattle.pg_call.specs.declared.statement.Goal.TheVariants as goals
use Rattle.pg_call.specs.declared.statement.Described.{Described}
use Rattle.pg_call.specs.declared.statement.Extended.{Extended}
use Rattle.pg_call.specs.declared.statement.Prepared.{Prepared}
use Rattle.pg_call.specs.declared.request.Request.{Request}
use Rattle.pg_call.specs.declared.request.Request.TheVariants as requests
use Rattle.pg_call.specs.declared.request.Sort.{Sort}
use Rattle.pg_call.specs.declared.request.Sort.TheVariants as sorts
use Rattle.pg_call.specs.declared.statement.Bound.{Bound}
use Rattle.pg_call.specs.declared.after.After.{After}
use Rattle.pg_call.specs.declared.after.After.TheVariants as afters
use Rattle.pg_call.specs.Requests.{after_kind, behind_goal, bound_by, bound_for, goal_kind, keeping_of, main_kind, named_keeping, request_behind, sort_of}
use Rattle.pg_conn.specs.Statements.{asked_as, asked_by, behind_description, by_leaving, entry_of, held_as, held_behind, held_by, leaving, moved, number_for, prepare_by, query_by, run_or_describe, tell_or_describe, unmoved}

-- ---- the depth stays

pub depth_moved : (keeping : Keeping) (rule : Rule) → (moved keeping rule).depth ≡ rule.depth
depth_moved keepings.Stays rule = refl
depth_moved (keepings.Hits number) rule = refl
depth_moved keepings.Draws rule = by (number_left rule)
  where
    by : (o : Option ℕ) → (cond (is_some o) (drawn rule) rule).depth ≡ rule.depth
    by (Some n) = refl
    by None = refl
depth_moved keepings.Puts rule = refl
depth_moved keepings.Evicts rule = refl
depth_moved keepings.Clears rule = refl

pub depth_unmoved : (keeping : Keeping) (rule : Rule) → (unmoved keeping rule).depth ≡ rule.depth
depth_unmoved keepings.Puts rule = refl
depth_unmoved keepings.Evicts rule = refl
depth_unmoved _ rule = refl

depth_behind : (rule : Rule) (x : Extended) (o : Option Described) → (held_behind rule x o).depth ≡ rule.depth
depth_behind rule x None = refl
depth_behind rule x (Some d) = by (nat_eq x.statement 0)
  where
    by : (b : Bool) → (cond b rule (holding (entry_of x d) rule)).depth ≡ rule.depth
    by true = refl
    by false = refl

pub depth_held : (rule : Rule) (r : Request) → (held_by rule r).depth ≡ rule.depth
depth_held rule (requests.Describe x) = depth_behind rule x x.described
depth_held rule _ = refl

-- ---- the kind stays

run_main : (rule : Rule) (how : How) (sql : List ℕ) (arguments : ArgumentsSeen) (persistent : Bool) (o : Option Entry) → main_kind (run_or_describe rule how sql arguments persistent o) ≡ kinds.Run how
run_main rule how sql arguments persistent (Some e) = refl
run_main rule how sql arguments persistent None = refl

query_main : (rule : Rule) (how : How) (query : QueryText) (o : Option ArgumentsSeen) (r : Request) → main_kind r ≡ kinds.Run how → main_kind (query_by rule how query o r) ≡ kinds.Run how
query_main rule how query None r k = k
query_main rule how query (Some arguments) r k = run_main rule how query.sql arguments query.persistent _

tell_main : (rule : Rule) (p : Prepared) (o : Option Entry) → main_kind (tell_or_describe rule p o) ≡ kinds.Prepare
tell_main rule p (Some e) = refl
tell_main rule p None = refl

prepare_main : (rule : Rule) (p : Prepared) (o : Option (List PgColumn)) → main_kind (prepare_by rule p o) ≡ kinds.Prepare
prepare_main rule p (Some columns) = refl
prepare_main rule p None = tell_main rule p _

after_main : (after : After) → main_kind (request_behind after) ≡ after_kind after
after_main (afters.Run bound) = refl
after_main (afters.Fill filling) = refl
after_main (afters.Prepare prepared) = refl

bound_main : (filling : Option (List ℕ)) (bound : Bound) → after_kind (bound_by filling bound) ≡ kinds.Run bound.how
bound_main None bound = refl
bound_main (Some text) bound = refl

goal_after : (goal : Goal) (x : Extended) (d : Described) (keeping : Keeping) → after_kind (behind_goal goal x d keeping) ≡ goal_kind goal
goal_after (goals.Run how) x d keeping = bound_main x.filling (bound_for how x d keeping)
goal_after goals.Prepare x d keeping = refl

goal_main : (goal : Goal) (x : Extended) (d : Described) (keeping : Keeping) → main_kind (request_behind (behind_goal goal x d keeping)) ≡ goal_kind goal
goal_main goal x d keeping = after_main (behind_goal goal x d keeping) ∙ goal_after goal x d keeping

leaving_main : (goal : Goal) (x : Extended) (d : Described) (o : Option ℕ) → x.goal ≡ goal → main_kind (by_leaving x d o) ≡ goal_kind goal
leaving_main goal x d (Some number) e = goal_after x.goal x d keepings.Stays ∙ ap goal_kind e
leaving_main goal x d None e = goal_main x.goal x d keepings.Puts ∙ ap goal_kind e

behind_main : (rule : Rule) (x : Extended) (o : Option Described) → main_kind (behind_description rule x o) ≡ goal_kind x.goal
behind_main rule x None = refl
behind_main rule x (Some d) = by (nat_eq x.statement 0)
  where
    by : (b : Bool) → main_kind (cond b (request_behind (behind_goal x.goal x d keepings.Stays)) (by_leaving x d (option_map (λ (e : Entry). e.statement) (leaving rule)))) ≡ goal_kind x.goal
    by true = goal_main x.goal x d keepings.Stays
    by false = leaving_main x.goal x d _ refl

pub asked_main : (rule : Rule) (r : Request) → main_kind (asked_by rule r) ≡ main_kind r
asked_main rule (requests.Execute query) = query_main rule hows.Execute query query.arguments (requests.Execute query) refl
asked_main rule (requests.ExecuteMany query) = query_main rule hows.ExecuteMany query query.arguments (requests.ExecuteMany query) refl
asked_main rule (requests.Fetch query) = query_main rule hows.Fetch query query.arguments (requests.Fetch query) refl
asked_main rule (requests.FetchMany query) = query_main rule hows.FetchMany query query.arguments (requests.FetchMany query) refl
asked_main rule (requests.FetchAll query) = query_main rule hows.FetchAll query query.arguments (requests.FetchAll query) refl
asked_main rule (requests.FetchOptional query) = query_main rule hows.FetchOptional query query.arguments (requests.FetchOptional query) refl
asked_main rule (requests.FetchOne query) = query_main rule hows.FetchOne query query.arguments (requests.FetchOne query) refl
asked_main rule (requests.Describe x) = behind_main rule x x.described
asked_main rule (requests.Prepare p) = prepare_main rule p p.columns
asked_main rule (requests.Clear statements) = refl
asked_main rule _ = refl

-- ---- what comes behind a description that was told

pub behind_unnamed : (rule : Rule) (x : Extended) (o : Option Described) (r : Request) → IsSome o → x.statement ≡ 0 → ((d : Described) → o ≡ Some d → r ≡ request_behind (behind_goal x.goal x d keepings.Stays)) → r ≡ behind_description rule x o
behind_unnamed rule x (Some d) r some unnamed is = is d refl ∙ ap (λ (b : Bool). cond b (request_behind (behind_goal x.goal x d keepings.Stays)) (by_leaving x d (option_map (λ (e : Entry). e.statement) (leaving rule)))) (sym (ap (λ (n : ℕ). nat_eq n 0) unnamed))
behind_unnamed rule x None r some unnamed is = absurd cc

pub behind_named : (rule : Rule) (x : Extended) (o : Option Described) (r : Request) → IsSome o → x.statement ≢ 0 → ((d : Described) → o ≡ Some d → r ≡ by_leaving x d (option_map (λ (e : Entry). e.statement) (leaving rule))) → r ≡ behind_description rule x o
behind_named rule x (Some d) r some named is = is d refl ∙ ap (λ (b : Bool). cond b (request_behind (behind_goal x.goal x d keepings.Stays)) (by_leaving x d (option_map (λ (e : Entry). e.statement) (leaving rule)))) (sym (ne_eqb x.statement 0 named))
behind_named rule x None r some named is = absurd cc

-- ---- without memory a statement to prepare leaves what is kept

named_unmoved : (statement : ℕ) (rule : Rule) → unmoved (named_keeping statement) rule ≡ rule
named_unmoved statement rule = by (nat_eq statement 0)
  where
    by : (b : Bool) → unmoved (cond b keepings.Stays keepings.Draws) rule ≡ rule
    by true = refl
    by false = refl

tell_unmoved : (rule : Rule) (p : Prepared) (o : Option Entry) → unmoved (keeping_of (tell_or_describe rule p o)) rule ≡ rule
tell_unmoved rule p (Some e) = refl
tell_unmoved rule p None = named_unmoved (number_for true rule) rule

prepare_unmoved : (rule : Rule) (p : Prepared) (o : Option (List PgColumn)) → o ≡ None → unmoved (keeping_of (prepare_by rule p o)) rule ≡ rule
prepare_unmoved rule p None none = tell_unmoved rule p _
prepare_unmoved rule p (Some columns) none = absurd cc

pub prepare_fails : (rule : Rule) (r : Request) (p : Prepared) (result : Result Request Error) → sort_of r ≡ sorts.Prepare p → IfErr result (λ e. (e ≡ errors.OutOfMemory) × (p.columns ≡ None))
    → IfErr result (λ e. (e ≡ errors.OutOfMemory) × (rule ≡ unmoved (keeping_of (asked_by rule r)) (held_by rule r)))
prepare_fails rule r p (Ok next) is fails = tt
prepare_fails rule r p (Err e) is fails = (fails.0, sym (ap (λ (s : Sort). unmoved (keeping_of (asked_as rule s)) (held_as rule s)) is ∙ prepare_unmoved rule p p.columns fails.1))
