-- Links that were not called yet.
use Rattle.std.proofs.Common.{List, [], ◌∷◌, ◌++◌}
use Rattle.pg_stream.specs.Memory.{seen_of}
use Rattle.pg_stream.specs.declared.memory.MemoryLink.{MemoryLink}
use Rattle.pg_conn.specs.Dials.{AreUncalled, IsUncalled}

pub one_more : (links : List MemoryLink) (link : MemoryLink) → AreUncalled links → IsUncalled (seen_of link) → AreUncalled (links ++ link ∷ [])
one_more [] link all new = (new, tt)
one_more (x ∷ links) link all new = (all.0, one_more links link all.1 new)
