-- The number of a statement that isn't described yet is still the next one behind a lookup for it.
use Rattle.pg_call.specs.declared.statement.Bound.{Bound}
use Rattle.std.proofs.Common.{◌≡◌, Bool, true, false, List, Option, Some, None, refl, sym, ap, ◌∙◌, subst}
use Rattle.std.proofs.lemmas.Option.{same_Some}
use Rattle.pg_wire.specs.Backend.{BackendMessage}
use Rattle.pg_call.specs.declared.kind.Keeping.TheVariants as keepings
use Rattle.pg_call.specs.declared.request.Request.{Request}
use Rattle.pg_call.specs.declared.request.Request.TheVariants as requests
use Rattle.pg_call.specs.declared.after.After.{After}
use Rattle.pg_call.specs.declared.after.After.TheVariants as afters
use Rattle.pg_call.specs.declared.statement.Described.{Described}
use Rattle.pg_call.specs.declared.statement.Extended.{Extended}
use Rattle.pg_call.specs.Requests.{Group, request_behind, looked_behind}
use Rattle.pg_rule.specs.declared.rule.Rule.{Rule}
use Rattle.pg_conn.specs.Connections.{with_depth}
use Rattle.pg_conn.specs.Statements.{held_by}
use Rattle.pg_report.specs.declared.outcome.Answer.TheVariants.{Unit as AnswersUnit}
use Rattle.pg_report.specs.declared.outcome.End.TheVariants as ends
use Rattle.pg_script.specs.declared.step.Call.{Call}
use Rattle.pg_script.specs.declared.step.Call.TheVariants as calls
use Rattle.pg_play.specs.Shown.{handed_by}
use Rattle.pg_play.specs.Settling.{depth_after, has_moved, rule_after, statements_after}
use Rattle.pg_play.proofs.ExchangeLaws.{LeadsTo, told_by, undescribed_next}
use Rattle.pg_play.proofs.KeptLaws.{IsNumbered, NumbersOn}

stays_after : (moved : Bool) (rule : Rule) → statements_after keepings.Stays moved rule ≡ rule
stays_after true rule = refl
stays_after false rule = refl

abbrev described_in : Request → Option Described
described_in (requests.Describe x) = x.described
described_in _ = None

-- what a description hands on is described
told_is : (x y : Extended) (response : List BackendMessage) → told_by y response ≡ requests.Describe x → x.described ≡ None → ⊥
told_is x y response is e = absurd (none_some (sym e ∙ sym (ap described_in is)))
  where
    none_some : {d : Described} → None ≡ Some d → ⊥
    none_some e = cc

behind_none : (x : Extended) (a : After) → request_behind a ≡ requests.Describe x → ⊥
behind_none x (afters.Run bound) is = cc
behind_none x (afters.Fill filling) is = cc
behind_none x (afters.Prepare prepared) is = cc

pub numbers_on : (old rule : Rule) (call : Call) (own : List Group) (response : List BackendMessage) (told next : Request) → handed_by call response ≡ Some told → LeadsTo told next → held_by rule next ≡ rule_after old call own (Some next) (ends.Ok AnswersUnit) → NumbersOn old rule told
numbers_on old rule call own response told next handed leads same x tells e n = by call handed same
  where
    run_none : (bound : Bound) → requests.Run bound ≡ requests.Describe x → ⊥
    run_none bound e = cc

    by : (c : Call) → handed_by c response ≡ Some told → held_by rule next ≡ rule_after old c own (Some next) (ends.Ok AnswersUnit) → IsNumbered rule x
    by (calls.Describe y) h k = absurd (told_is x y response (same_Some (told_by y response) told h ∙ tells) e)
    by (calls.Evict v) h k = absurd (behind_none x v.after (same_Some (request_behind v.after) told h ∙ tells))
    by (calls.Look l) h k =
        let opened : Rule = with_depth (depth_after old.depth (calls.Look l) (ends.Ok AnswersUnit)) old in
        let behind : Rule = statements_after keepings.Stays (has_moved own (ends.Ok AnswersUnit)) opened in
        let is : rule ≡ behind = sym (undescribed_next rule told next x tells e leads) ∙ k ∙ undescribed_next behind told next x tells e leads in
        subst (λ (r : Rule). IsNumbered r x) (sym (is ∙ stays_after (has_moved own (ends.Ok AnswersUnit)) opened)) n
    by (calls.Fill f) h k = absurd (run_none (looked_behind f.bound) (same_Some (requests.Run (looked_behind f.bound)) told h ∙ tells))
    by _ h k = absurd cc
