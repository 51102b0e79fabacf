use Rattle.swc_base_rename_analysis_laws.proofs.scopes_are_nested.Goals as goal
use Rattle.swc_base_rename_analysis_laws.proofs.Rounds.{one_round_other, round_before, round_through}

-- src/lib.rt
pub returns : goal.returns
returns c = λ t. record { through = round_through t; one_round_other = one_round_other t; entered_first = round_before t }
