use Rattle.pool_cases.proofs.rows.leave.Given as goal

abbrev pub ghosts-row_of_leave-G-PoolLedger : goal.ghosts-row_of_leave-G-PoolLedger
ghosts-row_of_leave-G-PoolLedger g a = record { most = 1 }

abbrev pub ghosts-row_of_leave-G-Ledger : goal.ghosts-row_of_leave-G-Ledger
ghosts-row_of_leave-G-Ledger g a = record { name = a.blank.name; parts = a.blank.parts }
