-- The sample node on each side, which fixes the byte order, and the starred cases: each claim is computed.
use mathlib.Core.Path.{◌≡◌, refl}
use mathlib.Core.List.{map}
use lib.Count.{count_trailing_zeros}
use Rattle.machine.specs.Machine.{is_sound}
use Rattle.machine.specs.Calls.{call_of, silent, checks_of, effect_of, access_checks, change_checks, after}
use Rattle.rules.specs.Domains.{domain_bit, prevailing, giving_domain}
use Rattle.image.specs.Description.{bytes_of, machine_of}
use Rattle.image.specs.Load.{describe, load_checks, load_of, length_tests, kind_tests, shape_entry_tests, shape_tests, body_tests}
use Rattle.image.specs.Sample.{sample_bytes, sample_description, sample_machine}
use Rattle.image.specs.Starred.{starred, outcome, expected}

pub sample_loads : load_of sample_bytes ≡ silent 0 sample_machine
unfolding load_of load_checks length_tests kind_tests shape_entry_tests shape_tests body_tests describe machine_of sample_bytes sample_machine
sample_loads = refl

pub sample_written : bytes_of sample_description ≡ sample_bytes
unfolding bytes_of sample_description sample_bytes
sample_written = refl

pub starred_hold : map outcome starred ≡ map expected starred
unfolding starred sample_machine call_of checks_of effect_of access_checks change_checks after is_sound domain_bit prevailing giving_domain load_of load_checks length_tests kind_tests shape_entry_tests shape_tests body_tests describe machine_of sample_bytes count_trailing_zeros
starred_hold = refl
