-- Steps that are calls one behind another.
use Rattle.std.proofs.Common.{◌≡◌, inl, inr, ℕ, ◌<◌, ◌^◌, false, true, List, [], ◌∷◌, Some, None, Ok, Err, refl, subst, sym}
use Rattle.pg_wire.specs.declared.error.Error.{Error}
use Rattle.pg_request.specs.Queries.{QueryText}
use Rattle.pg_conn.specs.Connections.{ConnSeen}
use Rattle.pg_report.specs.declared.outcome.Answer.TheVariants.{Unit as AnswersUnit, Total, Described, Held}
use Rattle.pg_report.specs.declared.outcome.End.{End}
use Rattle.pg_report.specs.declared.outcome.End.TheVariants as ends
use Rattle.pg_report.specs.declared.outcome.Outcome.{Outcome}
use Rattle.pg_script.specs.declared.step.Call.{Call}
use Rattle.pg_script.specs.declared.step.Call.TheVariants as calls
use Rattle.pg_script.specs.declared.step.Chain.{Chain}
use Rattle.pg_script.specs.declared.step.Step.{Step}
use Rattle.pg_play.specs.Calls.{IsUnmade, PlaysStep}
use Rattle.pg_play.specs.Chained.{IsChainedAs}
use Rattle.pg_play.specs.Chains.{AsksBehind, EndsAlone, GoesOn, IsDescribed, asking_nulls, preparing, told_both}
use Rattle.pg_play.specs.Locks.{Guards}
use Rattle.pg_play.specs.Plays.{PlaysInOrder}

-- what came of a call that no other one comes behind
alone : (end : End) → GoesOn end (Ok None) → EndsAlone end end
alone (ends.Ok (Described parameters fields)) g = inl (g, refl)
alone (ends.Ok AnswersUnit) g = refl
alone (ends.Ok (Total n)) g = refl
alone (ends.Ok (Held b)) g = refl
alone (ends.Err e) g = refl
alone ends.Dropped g = refl

refused : (end : End) (e : Error) → GoesOn end (Err e) → EndsAlone end (ends.Err e)
refused (ends.Ok (Described parameters fields)) e g = inr (e, refl, g)
refused (ends.Ok AnswersUnit) e g = absurd cc
refused (ends.Ok (Total n)) e g = absurd cc
refused (ends.Ok (Held b)) e g = absurd cc
refused (ends.Err error) e g = absurd cc
refused ends.Dropped e g = absurd cc

asked : (end : End) (query : QueryText) → GoesOn end (Ok (Some query)) → AsksBehind end query
asked (ends.Ok (Described parameters fields)) query g = g
asked (ends.Ok AnswersUnit) query g = absurd cc
asked (ends.Ok (Total n)) query g = absurd cc
asked (ends.Ok (Held b)) query g = absurd cc
asked (ends.Err error) query g = absurd cc
asked ends.Dropped query g = absurd cc

-- what is played of a statement that is described: nothing for want of memory, the preparation alone, or both calls
abbrev pub Describes : ConnSeen → ConnSeen → Step → List ℕ → Outcome → Type 0
Describes a b step sql out = (calls : List Step) × (told : List Outcome) × IsDescribed step sql out calls told × PlaysInOrder a b calls told

pub unmade_alone : (a : ConnSeen) (step : Step) (sql : List ℕ) (out : Outcome) → IsUnmade step out → PlaysStep a a (preparing step sql) out
unmade_alone a step sql out (inl (unpolled, is)) = inr (refl, inl (unpolled, refl, is))
unmade_alone a step sql out (inr (polled, few, is)) = inr (refl, inr (polled, few, inr ((λ b. let e : false ≡ true = b.0 in cc), inl (refl, is, refl))))

ends_so : (step : Step) (out : Outcome) → IsUnmade step out → EndsAlone out.end out.end
ends_so step out (inl (unpolled, is)) = rw is refl
ends_so step out (inr (polled, few, is)) = rw is refl

pub describes_nothing : (a : ConnSeen) (step : Step) (sql : List ℕ) (out : Outcome) → IsUnmade step out → a.rule.depth < 2 ^ 64 → Describes a a step sql out
describes_nothing a step sql out u d = (preparing step sql ∷ [], out ∷ [], inl (out, out.end, refl, refl, ends_so step out u, refl), (a, unmade_alone a step sql out u, d, refl))

pub describes_alone : (a b : ConnSeen) (step : Step) (sql : List ℕ) (first : Outcome) → PlaysStep a b (preparing step sql) first → a.rule.depth < 2 ^ 64 → GoesOn first.end (Ok None) → Describes a b step sql first
describes_alone a b step sql first run d g = (preparing step sql ∷ [], first ∷ [], inl (first, first.end, refl, refl, alone first.end g, refl), (b, run, d, refl))

pub describes_too_many : (a b : ConnSeen) (step : Step) (sql : List ℕ) (first : Outcome) (e : Error) → PlaysStep a b (preparing step sql) first → a.rule.depth < 2 ^ 64 → GoesOn first.end (Err e) → Describes a b step sql (record first { end = ends.Err e })
describes_too_many a b step sql first e run d g = (preparing step sql ∷ [], first ∷ [], inl (first, ends.Err e, refl, refl, refused first.end e g, refl), (b, run, d, refl))

pub describes_both : (a m b : ConnSeen) (step : Step) (sql : List ℕ) (first later : Outcome) (query : QueryText) → PlaysStep a m (preparing step sql) first → a.rule.depth < 2 ^ 64 → GoesOn first.end (Ok (Some query)) → PlaysStep m b (asking_nulls step first.waits query) later → m.rule.depth < 2 ^ 64 → Describes a b step sql (told_both first later)
describes_both a m b step sql first later query run d g behind e = (
  preparing step sql ∷ asking_nulls step first.waits query ∷ [],
  first ∷ later ∷ [],
  inr (first, later, query, refl, refl, asked first.end query g, refl),
  (m, run, d, (b, behind, e, refl)),
)

-- a call that is no chain
pub is_alone : (call : Call) (guards : Guards) (step : Step) (out : Outcome) → ((chain : Chain) → call ≡ calls.Chain chain → ⊥) → ((text : List ℕ) → call ≡ calls.Release text → ⊥) → IsChainedAs call guards guards step out (step ∷ []) (out ∷ [])
is_alone (calls.Chain chain) guards step out n r = absurd (n chain refl)
is_alone (calls.Release text) guards step out n r = absurd (r text refl)
is_alone _ guards step out n r = (refl, refl, refl)

-- an act alone asks nothing
pub is_flush : (call : Call) (text : List ℕ) (guards : Guards) (step : Step) (out : Outcome) → call ≡ calls.Release text → IsChainedAs call guards guards step out (record step { call = calls.Flush } ∷ []) (out ∷ [])
is_flush call text guards step out e = subst (λ (c : Call). IsChainedAs c guards guards step out (record step { call = calls.Flush } ∷ []) (out ∷ [])) (sym e) (refl, refl, refl)
