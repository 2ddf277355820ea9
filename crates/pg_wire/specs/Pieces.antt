-- Internal: words for the laws and their proofs, which no contract of a function that runs needs.
use Rattle.std.specs.Prelude.{◌≡◌, List, [], ◌∷◌, flat_map}
use Rattle.pg_wire.specs.Frontend.{FrontendMessage}
use Rattle.pg_wire.specs.Backend.{BackendMessage, CopyInResponse, CopyOutResponse}
use Rattle.pg_wire.specs.Server.{Server, ServerRun, IsPrefixOf}
use Rattle.pg_wire.specs.Groups.{IsBetween}

-- the pieces of the beginning of a list, against those of the whole list: all are the same but for the last, which begins its own
abbrev pub PiecesOf : {X : Type 0} → List (List X) → List (List X) → Type 0
PiecesOf [] yss = Unit {0}
PiecesOf (xs ∷ xss) [] = ⊥
PiecesOf (xs ∷ []) (ys ∷ yss) = IsPrefixOf xs ys
PiecesOf (xs ∷ zs ∷ xss) (ys ∷ yss) = (xs ≡ ys) × PiecesOf (zs ∷ xss) yss

-- some server between two groups may begin its response to this group so
pub record BeginsResponse (group : List FrontendMessage) (begun : List BackendMessage) : Type 0 where
  pub before : Server
  pub after : Server
  pub replies : List (List BackendMessage)
  pub between : IsBetween before
  pub run : ServerRun before group replies after
  pub begins : IsPrefixOf begun (flat_map (λ rs. rs) replies)

-- a message that begins no copy
abbrev pub IsNoCopy : BackendMessage → Type 0
IsNoCopy (CopyInResponse format columns) = ⊥
IsNoCopy (CopyOutResponse format columns) = ⊥
IsNoCopy _ = Unit {0}
