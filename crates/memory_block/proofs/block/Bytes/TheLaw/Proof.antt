-- A `&` to the owner reaches each byte. Assumes `Logic`.
use denote.Struct.Lending.{of_Lends}
use Rattle.memory_block.specs.contracts.block.Bytes as C
use Rattle.memory_block.proofs.block.Bytes.TheLaw.Statement.{statement}
use Rattle.memory_block.proofs.Sharing.{bytes_lent_laws, Lends-bytes}

pub shares : statement
shares = of_Lends C.struct C.the_codes C.the_heap C.the_lent (λ d p. bytes_lent_laws d.at d.items d.spare) tt (λ M 𝓤 𝓛 d p. Lends-bytes 𝓛 C.the_row.lives d.at d.items d.spare)
