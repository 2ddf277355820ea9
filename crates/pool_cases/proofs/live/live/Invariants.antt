use Rattle.pool_cases.proofs.live.live.Given as goal

abbrev pub ghosts-share-G-PoolLedger : goal.ghosts-share-G-PoolLedger
ghosts-share-G-PoolLedger g a = record { most = 4 }

abbrev pub ghosts-share-G-Ledger : goal.ghosts-share-G-Ledger
ghosts-share-G-Ledger g a = record { name = a.blank.name; parts = a.blank.parts }
