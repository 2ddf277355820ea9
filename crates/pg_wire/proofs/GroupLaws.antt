-- Response k answers group k: the replies to closed groups, cut behind each ReadyForQuery, are one response for each group.
use Rattle.std.proofs.Common.{◌≡◌, Bool, true, false, cond, List, [], ◌∷◌, ◌++◌, refl, sym, ap, ◌∙◌, subst, append_assoc, flat_map, inl, inr}
use Rattle.std.specs.List.{AllByRecursion}
use Rattle.std.proofs.lemmas.List.Concat.{flat_map-append}
use Rattle.pg_wire.specs.Parts.{cut_after, onto_first}
use Rattle.pg_wire.specs.Frontend.{FrontendMessage}
use Rattle.pg_wire.specs.Backend.{BackendMessage, ReadyForQuery}
use Rattle.pg_wire.specs.Server.{Server, ServerRun}
use Rattle.pg_wire.specs.Groups.{IsUnready, AreUnready, IsBetween, says_ready, IsGroup, AnswerGroups}
use Rattle.pg_wire.specs.Pieces.{PiecesOf}
use Rattle.pg_wire.proofs.PartLaws.{cut_after-append, closed_piece, NonePasses}
use Rattle.pg_wire.proofs.RunLaws.{run_split, AnswersGroup, query_group, sync_group}

unready_fails : (a : BackendMessage) → IsUnready a → says_ready a ≡ false
unready_fails (ReadyForQuery s) h = absurd h
unready_fails _ h = refl

unready_none : (rs : List BackendMessage) → AreUnready rs → NonePasses says_ready rs
unready_none [] h = tt
unready_none (r ∷ rs) h = (unready_fails r h.0, unready_none rs h.1)

pub group_answers : (old new : Server) (g : List FrontendMessage) (rss : List (List BackendMessage)) → IsGroup g → IsBetween old → ServerRun old g rss new → AnswersGroup rss new
group_answers old new g rss (inl q) b run = query_group old new q.0 rss b (subst (λ (t : List FrontendMessage). ServerRun old t rss new) q.1 run)
group_answers old new g rss (inr s) b run = sync_group old new s.0 rss s.1 b.0 (subst (λ (t : List FrontendMessage). ServerRun old t rss new) s.2 run)

-- response k answers group k
pub parts_answer : (old new : Server) (gs : List (List FrontendMessage)) (rss : List (List BackendMessage)) → AllByRecursion IsGroup gs → IsBetween old → ServerRun old (flat_map (λ g. g) gs) rss new
    → AnswerGroups old gs (cut_after says_ready (flat_map (λ rs. rs) rss)) new
parts_answer old new [] [] h b run = (refl, run)
parts_answer old new [] (rs ∷ rss) h b run = absurd run
parts_answer old new (g ∷ gs) rss h b run =
    let t = run_split old new g (flat_map (λ g. g) gs) rss run in
    let one = group_answers old t.mid g t.front h.0 b t.begins in
    let further = parts_answer t.mid new gs t.further h.1 one.1 t.goes_on in
    let r = one.0 in
    let e : flat_map (λ rs. rs) rss ≡ r.front ++ ReadyForQuery r.status ∷ flat_map (λ rs. rs) t.further =
    ap (flat_map (λ (rs : List BackendMessage). rs)) t.parts ∙ flat_map-append (λ rs. rs) t.front t.further
    ∙ ap (λ (w : List BackendMessage). w ++ flat_map (λ rs. rs) t.further) r.are ∙ append_assoc r.front (ReadyForQuery r.status ∷ []) (flat_map (λ rs. rs) t.further) in
    let cutting : cut_after says_ready (flat_map (λ rs. rs) rss) ≡ (r.front ++ ReadyForQuery r.status ∷ []) ∷ cut_after says_ready (flat_map (λ rs. rs) t.further) =
    ap (cut_after says_ready) e ∙ cut_after-append says_ready r.front (ReadyForQuery r.status) (flat_map (λ rs. rs) t.further) refl
    ∙ ap (λ (w : List (List BackendMessage)). w ++ cut_after says_ready (flat_map (λ rs. rs) t.further)) (closed_piece says_ready r.front (ReadyForQuery r.status) (unready_none r.front r.unready) refl) in
    subst (λ (w : List (List BackendMessage)). AnswerGroups old (g ∷ gs) w new) (sym cutting)
    (t.mid, t.front, t.begins, sym r.are, record { front = r.front; status = r.status; unready = r.unready; are = refl }, further)

pieces_whole : {X : Type 0} (x : X) (xss yss : List (List X)) → PiecesOf xss yss → PiecesOf ((x ∷ []) ∷ xss) ((x ∷ []) ∷ yss)
pieces_whole x [] yss h = ([], refl)
pieces_whole x (xs ∷ xss) yss h = (refl, h)

front_onto : {X : Type 0} (x : X) (yss : List (List X)) → PiecesOf ((x ∷ []) ∷ []) (onto_first x yss)
front_onto x [] = ([], refl)
front_onto x (ys ∷ yss) = (ys, refl)

pieces_onto : {X : Type 0} (x : X) (xss yss : List (List X)) → PiecesOf xss yss → PiecesOf (onto_first x xss) (onto_first x yss)
pieces_onto x [] yss h = front_onto x yss
pieces_onto x (xs ∷ xss) [] h = absurd h
pieces_onto x (xs ∷ []) (ys ∷ yss) h = (h.0, ap (λ (w : List _). x ∷ w) h.1)
pieces_onto x (xs ∷ zs ∷ xss) (ys ∷ yss) h = (ap (λ (w : List _). x ∷ w) h.0, h.1)

pieces_one : {X : Type 0} (b : Bool) (x : X) (xss yss : List (List X)) → PiecesOf xss yss → PiecesOf (cond b ((x ∷ []) ∷ xss) (onto_first x xss)) (cond b ((x ∷ []) ∷ yss) (onto_first x yss))
pieces_one true x xss yss h = pieces_whole x xss yss h
pieces_one false x xss yss h = pieces_onto x xss yss h

pub pieces_of_front : {X : Type 0} (ends : X → Bool) (xs rest : List X) → PiecesOf (cut_after ends xs) (cut_after ends (xs ++ rest))
pieces_of_front ends [] rest = tt
pieces_of_front ends (x ∷ xs) rest = pieces_one (ends x) x (cut_after ends xs) (cut_after ends (xs ++ rest)) (pieces_of_front ends xs rest)
