mod Tables
mod Rooms
