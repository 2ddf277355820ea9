-- What was described under a name is kept over all groups behind, until one closes it.
use Rattle.std.proofs.Common.{◌≡◌, ◌≢◌, ℕ, List, [], ◌∷◌, refl, sym, ap, ◌∙◌, subst, flat_map, inl, inr}
use Rattle.std.specs.List.{AllByRecursion}
use Rattle.pg_wire.specs.Frontend.{FrontendMessage}
use Rattle.pg_wire.specs.Backend.{BackendMessage}
use Rattle.pg_wire.specs.Server.{Server, ServerRun}
use Rattle.pg_wire.specs.Groups.{IsBetween, IsGroup, AnswerGroups}
use Rattle.pg_wire.proofs.GroupLaws.{group_answers}
use Rattle.pg_wire.proofs.CopyLaws.{plain, run_copies}
use Rattle.pg_exchanges.specs.Answering.{describing, IsNoError}
use Rattle.pg_exchanges.specs.Keeping.{Named, Keeps, Describes, Spares, IsDescribedIn}
use Rattle.pg_exchanges.proofs.WidthLaws.{run_stays, description_keeps, told_as}

-- over one group
keeps_group : (name sql : List ℕ) (width : ℕ) (old new : Server) (group : List FrontendMessage) (rss : List (List BackendMessage)) → name ≢ [] → ServerRun old group rss new → Spares (record { name = name; sql = sql; width = width }) group → Keeps old (record { name = name; sql = sql; width = width })
    → Keeps new (record { name = name; sql = sql; width = width })
keeps_group [] sql width old new group rss n run spares k = absurd (n refl)
keeps_group (b ∷ bs) sql width old new group rss n run spares k = (k.0, run_stays b bs k.0 group (plain old) (plain new) rss k.1 (run_copies old new group rss run) spares, k.2, k.3)

-- over groups that don't close it
keeps_over : (n : Named) (groups : List (List FrontendMessage)) (responses : List (List BackendMessage)) (old new : Server) → n.name ≢ [] → AnswerGroups old groups responses new → AllByRecursion (Spares n) groups → Keeps old n → Keeps new n
keeps_over n [] responses old new named a spares k = subst (λ (s : Server). Keeps s n) (sym a.1) k
keeps_over n (group ∷ groups) [] old new named a spares k = absurd a
keeps_over n (group ∷ groups) (response ∷ responses) old new named a spares k =
    keeps_over n groups responses a.0 new named a.5 spares.1 (keeps_group n.name n.sql n.width old a.0 group a.1 named a.2 spares.0 k)

-- behind the group that described it
keeps_told : (n : Named) (old new : Server) (group : List FrontendMessage) (response : List BackendMessage) (rss : List (List BackendMessage)) → IsBetween old → ServerRun old group rss new → response ≡ flat_map (λ rs. rs) rss → Describes n group response → Keeps new n
keeps_told n old new group response rss between run is d =
    let ran = subst (λ (g : List FrontendMessage). ServerRun old g rss new) d.1 run in
    let good = subst (AllByRecursion IsNoError) is d.2 in
    let k = description_keeps (plain old) (plain new) n.name n.sql d.0 rss refl between (run_copies old new (describing n.name n.sql d.0) rss ran) good in
    (k.0, k.1, k.2, k.3 ∙ ap (λ (ms : List BackendMessage). (told_as n.name n.sql ms).width) (sym is) ∙ d.3)

pub described_is_kept : (n : Named) (groups : List (List FrontendMessage)) (responses : List (List BackendMessage)) (old new : Server) → n.name ≢ [] → IsBetween old → AllByRecursion IsGroup groups → AnswerGroups old groups responses new → IsDescribedIn n groups responses → Keeps new n
described_is_kept n [] responses old new named between are a d = absurd d
described_is_kept n (group ∷ groups) [] old new named between are a d = absurd d
described_is_kept n (group ∷ groups) (response ∷ responses) old new named between are a (inl later) =
    described_is_kept n groups responses a.0 new named (group_answers old a.0 group a.1 are.0 between a.2).1 are.1 a.5 later
described_is_kept n (group ∷ groups) (response ∷ responses) old new named between are a (inr here) =
    keeps_over n groups responses a.0 new named a.5 here.1 (keeps_told n old a.0 group response a.1 between a.2 a.3 here.0)
