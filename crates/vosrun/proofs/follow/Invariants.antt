use Rattle.vosrun.proofs.follow.Given as goal

-- each turn makes a step
abbrev pub decreases-loop-left : goal.decreases-loop-left
decreases-loop-left l = l.left
