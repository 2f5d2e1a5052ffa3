use Rattle.tn_layout.proofs.sizes.settle.Given as goal

-- the ledger is the one that the blank is of
abbrev pub ghosts-settle_uncounted : goal.ghosts-settle_uncounted
ghosts-settle_uncounted a = record { name = a.blank.name; parts = a.blank.parts }
