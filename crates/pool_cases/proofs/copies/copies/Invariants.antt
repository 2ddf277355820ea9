use Rattle.pool_cases.proofs.copies.copies.Given as goal

abbrev pub ghosts-row_of_copies-G-PoolLedger : goal.ghosts-row_of_copies-G-PoolLedger
ghosts-row_of_copies-G-PoolLedger g a = record { most = 1 }

abbrev pub ghosts-row_of_copies-G-Ledger : goal.ghosts-row_of_copies-G-Ledger
ghosts-row_of_copies-G-Ledger g a = record { name = a.blank.name; parts = a.blank.parts }
