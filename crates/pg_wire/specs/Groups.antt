-- Request groups and the responses to them (PostgreSQL manual, "Simple Query", "Extended Query").
use Rattle.pg_wire.specs.declared.status.TransactionStatus.{TransactionStatus}
use Rattle.std.specs.Prelude.{◌≡◌, Bool, false, ◌⊎◌, List, [], ◌∷◌, ◌++◌, flat_map, ℕ}
use Rattle.std.specs.List.{AllByRecursion}
use Rattle.pg_wire.specs.Parts.{is_ready}
use Rattle.pg_wire.specs.Frontend.{FrontendMessage, Query, Sync, Terminate}
use Rattle.pg_wire.specs.Backend.{BackendMessage, backend_frame, ReadyForQuery}
use Rattle.pg_wire.specs.Server.{Server, ServerRun}

-- a message that stands within a group: no Query, Sync or Terminate
abbrev pub IsInner : FrontendMessage → Type 0
IsInner (Query sql) = ⊥
IsInner Sync = ⊥
IsInner Terminate = ⊥
IsInner _ = Unit {0}

-- a group of the simple query, and one of the extended query
abbrev pub IsQueryGroup : List FrontendMessage → Type 0
IsQueryGroup messages = (sql : List ℕ) × (messages ≡ Query sql ∷ [])

abbrev pub IsSyncGroup : List FrontendMessage → Type 0
IsSyncGroup messages = (inner : List FrontendMessage) × AllByRecursion IsInner inner × (messages ≡ inner ++ Sync ∷ [])

-- a closed request group: one Query, or other messages and a Sync
abbrev pub IsGroup : List FrontendMessage → Type 0
IsGroup messages = IsQueryGroup messages ⊎ IsSyncGroup messages

-- a server between two groups: it goes on, and skips nothing
abbrev pub IsBetween : Server → Type 0
IsBetween server = (server.over ≡ false) × (server.skip ≡ false)

-- a message, and messages, other than ReadyForQuery
abbrev pub IsUnready : BackendMessage → Type 0
IsUnready (ReadyForQuery status) = ⊥
IsUnready _ = Unit {0}

abbrev pub AreUnready : List BackendMessage → Type 0
AreUnready rs = AllByRecursion IsUnready rs

-- a whole response: its last message is ReadyForQuery, and no other one is
pub record EndsReady (rs : List BackendMessage) : Type 0 where
  pub front : List BackendMessage
  pub status : TransactionStatus
  pub unready : AreUnready front
  pub are : rs ≡ front ++ ReadyForQuery status ∷ []

-- the message that ends a response
abbrev pub says_ready : BackendMessage → Bool
says_ready message = is_ready (backend_frame message)

-- there are as many responses as groups; each is whole, and is the server's reply to its group from where the response before left it
abbrev pub AnswerGroups : Server → List (List FrontendMessage) → List (List BackendMessage) → Server → Type 0
AnswerGroups old [] responses new = (responses ≡ []) × (new ≡ old)
AnswerGroups old (group ∷ groups) [] new = ⊥
AnswerGroups old (group ∷ groups) (response ∷ responses) new = (mid : Server) × (rss : List (List BackendMessage)) × ServerRun old group rss mid × (response ≡ flat_map (λ rs. rs) rss) × EndsReady response × AnswerGroups mid groups responses new
