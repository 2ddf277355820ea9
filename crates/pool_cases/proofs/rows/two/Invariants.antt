use Rattle.pool_cases.proofs.rows.two.Given as goal

abbrev pub ghosts-row_of_two-G-PoolLedger : goal.ghosts-row_of_two-G-PoolLedger
ghosts-row_of_two-G-PoolLedger g a = record { most = 2 }

abbrev pub ghosts-row_of_two-G-Ledger : goal.ghosts-row_of_two-G-Ledger
ghosts-row_of_two-G-Ledger g a = record { name = a.blank.name; parts = a.blank.parts }

abbrev pub ghosts-row_of_two-H-PoolLedger : goal.ghosts-row_of_two-H-PoolLedger
ghosts-row_of_two-H-PoolLedger g a = record { most = 2 }

abbrev pub ghosts-row_of_two-H-Ledger : goal.ghosts-row_of_two-H-Ledger
ghosts-row_of_two-H-Ledger g a = record { name = a.another.name; parts = a.another.parts }
