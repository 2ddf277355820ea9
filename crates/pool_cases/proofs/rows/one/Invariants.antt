use Rattle.pool_cases.proofs.rows.one.Given as goal

abbrev pub ghosts-row_of_one-G-PoolLedger : goal.ghosts-row_of_one-G-PoolLedger
ghosts-row_of_one-G-PoolLedger g a = record { most = 1 }

abbrev pub ghosts-row_of_one-G-Ledger : goal.ghosts-row_of_one-G-Ledger
ghosts-row_of_one-G-Ledger g a = record { name = a.blank.name; parts = a.blank.parts }
