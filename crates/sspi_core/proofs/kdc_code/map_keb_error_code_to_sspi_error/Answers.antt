use Rattle.std.proofs.Common.{refl, arith}
use Rattle.sspi_core.proofs.KdcCodes.{unknown_code, unknown_between, field_codes}
use Rattle.sspi_core.proofs.kdc_code.map_keb_error_code_to_sspi_error.Goals as goal

pub returns-in_default : goal.returns-in_default
returns-in_default c = unknown_code 0 1 c.args.code refl (omega arith) (omega arith)

pub returns-in_default-2 : goal.returns-in_default-2
returns-in_default-2 c = unknown_between c.args.code (omega arith) (omega arith) (λ a b. grind arith) (λ a b. grind arith)

pub returns-in_default-3 : goal.returns-in_default-3
returns-in_default-3 c = unknown_code 77 4294967296 c.args.code refl (omega arith) (omega arith)

pub returns-in-60-2 : goal.returns-in-60-2
returns-in-60-2 c = field_codes c.args.code (grind arith) (omega arith)
