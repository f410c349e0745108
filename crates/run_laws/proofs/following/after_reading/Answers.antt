use Rattle.run_laws.proofs.Reading.{octets_read, end_read, fault_read}
use Rattle.run_laws.proofs.following.after_reading.Goals as goal

pub returns-clause-octets : goal.returns-clause-octets
returns-clause-octets c = λ conn count space notes old now new tells follows read after fails. octets_read conn space old now new tells notes follows count read after fails

pub returns-clause-ended : goal.returns-clause-ended
returns-clause-ended c = λ conn space notes old now new tells follows read after fails. end_read conn space old now new tells notes follows read after fails

pub returns-clause-failed : goal.returns-clause-failed
returns-clause-failed c = λ conn space notes old now new tells follows read after fails. fault_read conn space old now new tells notes follows read after fails
