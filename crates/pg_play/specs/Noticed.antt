-- A place where neither the link nor the server has failed.
use Rattle.std.specs.Prelude.{List, [], ◌∷◌, map, codes}
use Rattle.pg_wire.specs.Frontend.{frontend_frame, Query}
use Rattle.pg_wire.specs.Backend.{BackendMessage, backend_frame, RowDescription, CommandComplete}
use Rattle.pg_wire.specs.Exchanges.{one_column, row, beside_ready}
use Rattle.pg_stream.specs.Links.{LinkSeen, Rose}
use Rattle.pg_stream.specs.Streams.{fresh_stream}
use Rattle.pg_play.specs.Places.{Place, first_place}
use Rattle.pg_play.specs.Complete.{IsFaultless}

-- the reply to a query, with asynchronous messages in front of its end
abbrev pub noticed : List BackendMessage
noticed = RowDescription (one_column ∷ []) ∷ row ∷ CommandComplete (codes "SELECT 1") ∷ beside_ready

-- where this was read, and nothing else
abbrev pub noticed_place : LinkSeen → Place
noticed_place link = record (first_place 0 (fresh_stream link)) { said = Query (codes "SELECT 1") ∷ []; groups = (Query (codes "SELECT 1") ∷ []) ∷ []; frames = map backend_frame noticed }

-- there nobody failed, if the link's counts stand below their type's end
abbrev pub NoticesAreFaultless : Type 0
NoticesAreFaultless = (link : LinkSeen) → (Rose link.faults link.faults → ⊥) → (Rose link.ends link.ends → ⊥) → IsFaultless link (noticed_place link) (frontend_frame (Query (codes "SELECT 1")) ∷ []) (map backend_frame noticed) []
