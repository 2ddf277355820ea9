-- Which frames of a server answer requests, and how the frames of both sides fall into request groups and responses (PostgreSQL manual,
-- "Message Flow").
use Rattle.std.specs.Prelude.{Bool, not, List, [], ◌∷◌, cond, filter, codes}
use Rattle.pg_wire.specs.Frame.{Frame, is_known}

-- an asynchronous message, which a server may send at any time: NoticeResponse, ParameterStatus, NotificationResponse
-- ("Asynchronous Operations")
abbrev pub is_asynchronous : Frame → Bool
is_asynchronous frame = is_known (codes "NSA") frame.tag

-- a server's frames without the asynchronous messages
abbrev pub heard : List Frame → List Frame
heard frames = filter (λ frame. not (is_asynchronous frame)) frames

-- the element at the beginning of the first list, or of a new one
abbrev pub onto_first : {X : Type 0} → X → List (List X) → List (List X)
onto_first x [] = (x ∷ []) ∷ []
onto_first x (xs ∷ xss) = (x ∷ xs) ∷ xss

-- a list cut behind each element that ends a piece; behind the last of them the piece stays open
abbrev pub cut_after : {X : Type 0} → (X → Bool) → List X → List (List X)
cut_after ends [] = []
cut_after ends (x ∷ xs) = cond (ends x) ((x ∷ []) ∷ cut_after ends xs) (onto_first x (cut_after ends xs))

-- Query and Sync end a request group: each asks for one ReadyForQuery ("Simple Query", "Extended Query")
abbrev pub ends_group : Frame → Bool
ends_group frame = is_known (codes "QS") frame.tag

-- ReadyForQuery ends a response
abbrev pub is_ready : Frame → Bool
is_ready frame = is_known (codes "Z") frame.tag

-- a client's frames by request groups; the last group may be open
abbrev pub groups : List Frame → List (List Frame)
groups frames = cut_after ends_group frames

-- a server's frames, without the asynchronous ones, by responses; the last one may be open, and where the frames are replies of a server
-- response k answers request group k
abbrev pub parts : List Frame → List (List Frame)
parts frames = cut_after is_ready frames
