use Rattle.run_laws.proofs.Lives.{lived_of_all, lived_of_front}
use Rattle.run_laws.proofs.hearing.lived.Goals as goal

pub returns : goal.returns
returns g c = record { all = λ server table max notes conn octets. lived_of_all server table max notes conn octets; front = λ server table max notes conn octets. lived_of_front server table max notes conn octets }
