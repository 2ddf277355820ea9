use Rattle.pool_cases.proofs.listening.rows.played.Given as goal

abbrev pub ghosts-lent-G-PoolLedger : goal.ghosts-lent-G-PoolLedger
ghosts-lent-G-PoolLedger g a = record { most = 1 }

abbrev pub ghosts-lent-G-Ledger : goal.ghosts-lent-G-Ledger
ghosts-lent-G-Ledger g a = record { name = a.blank.name; parts = a.blank.parts }

abbrev pub ghosts-alone-G-PoolLedger : goal.ghosts-alone-G-PoolLedger
ghosts-alone-G-PoolLedger g a = record { most = 1 }

abbrev pub ghosts-alone-G-Ledger : goal.ghosts-alone-G-Ledger
ghosts-alone-G-Ledger g a = record { name = a.blank.name; parts = a.blank.parts }
