use Rattle.pool_cases.proofs.sharing.threads.Given as goal

abbrev pub ghosts-row_of_threads-G-PoolLedger : goal.ghosts-row_of_threads-G-PoolLedger
ghosts-row_of_threads-G-PoolLedger g a = record { most = 1 }

abbrev pub ghosts-row_of_threads-G-Ledger : goal.ghosts-row_of_threads-G-Ledger
ghosts-row_of_threads-G-Ledger g a = record { name = a.blank.name; parts = a.blank.parts }
