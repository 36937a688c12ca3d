-- The line and the status of a fault that tells what is faulty and where.
use Rattle.std.specs.Prelude.{ℕ, List}
use Rattle.cgm_base.specs.declared.status.Status.{Status}
use Rattle.cgm_base.specs.declared.status.Status.TheVariants as statuses
use Rattle.cgm_cli.specs.declared.faults.PlacedFault.{PlacedFault}
use Rattle.cgm_cli.specs.declared.faults.PlacedFault.TheVariants as faults
use Rattle.cgm_cli.specs.FaultLines.{text_fault, earlier_fault, limit_fault, certificate_fault, entry_fault}

abbrev pub placed_line : PlacedFault → List ℕ
placed_line (faults.Text line kind) = text_fault line kind
placed_line (faults.Earlier line kind) = earlier_fault line kind
placed_line (faults.Limit limit) = limit_fault limit
placed_line (faults.Certificate line kind) = certificate_fault line kind
placed_line (faults.Entry number why) = entry_fault number why

abbrev pub placed_status : PlacedFault → Status
placed_status (faults.Text line kind) = statuses.Text
placed_status (faults.Earlier line kind) = statuses.Earlier
placed_status (faults.Limit limit) = statuses.Limit
placed_status (faults.Certificate line kind) = statuses.Certificate
placed_status (faults.Entry number why) = statuses.Certificate
