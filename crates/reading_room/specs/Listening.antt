-- Where a room listens, what the program says then, and how it ends.
use Rattle.std.specs.Prelude.{ℕ, ◌≡◌, ◌⊎◌, List, [], ◌∷◌, ◌++◌, codes, decimal}
use Rattle.std.specs.Net.Addr.{IsV4And, ipv4_octets}
use Rattle.std.specs.Net.Socket.{socket_ip, socket_port}
use Rattle.std.specs.declared.net.socket_addr.SocketAddr.{SocketAddr}
use Rattle.record_text.specs.declared.refusal.RefusalKind.{RefusalKind}
use Rattle.record_text.specs.declared.refusal.RefusalKind.TheVariants as refusal

-- that port of 127.0.0.1
pub record IsRoomAddress (port : ℕ) (address : SocketAddr) : Type 0 where
  pub ip : IsV4And (socket_ip address) (λ ip. ipv4_octets ip ≡ 127 ∷ 0 ∷ 0 ∷ 1 ∷ [])
  pub port_is : socket_port address ≡ port

-- the address and the port, and a line feed
abbrev pub listening_line : ℕ → List ℕ
listening_line port = codes "listening on 127.0.0.1:" ++ decimal port ++ codes "\n"

-- listening or accepting failed; the output failed; memory was refused
abbrev pub IsRoomRefusal : RefusalKind → Type 0
IsRoomRefusal kind = (kind ≡ refusal.ReadFailed) ⊎ ((kind ≡ refusal.WriteFailed) ⊎ (kind ≡ refusal.OutOfMemory))
