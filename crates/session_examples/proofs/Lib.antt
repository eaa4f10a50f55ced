mod OnePut
mod OneConnection
mod FaultyLine
mod FullDesk
